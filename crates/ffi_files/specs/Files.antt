-- What the exported calls on files answer beside the calls that they hand on to: writing's answer by itself, and the version.
use Rattle.std.specs.Prelude.{List, ℕ, ◌+◌, ◌*◌}
use Rattle.numbers.specs.Column.{Column}
use Rattle.refusals.specs.Outcome.{Outcome, done, refused, tested, Call}
use Rattle.panel_file.specs.File.{file_length}
use Rattle.panel_file_writer.specs.Writing.{writing_refusal}

-- document 02, 1/13: the refusal, or how many bytes the file has; `room` is the length of the lent slice
abbrev pub writing_answer : ℕ → Column → Column → ℕ → Outcome ℕ
writing_answer n matrix readings room = tested (writing_refusal n matrix readings room) refused (done (file_length n))

-- an answer with what the slice then holds
abbrev pub left_with : Outcome ℕ → List ℕ → Call ℕ (List ℕ)
left_with answer left = record { answer = answer; left = left }

-- the version 0.8.0, each part below a thousand
abbrev pub version_number : ℕ
version_number = (0 * 1000 + 8) * 1000 + 0
