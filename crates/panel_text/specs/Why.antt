-- Document 02, request 8: what is printed of why a file is refused: "no reason", or `refused K` and, for 6 and 7, a line with the place. Steps, columns and
-- rows count from 1 here, as pads do.
use Rattle.std.specs.Prelude.{cond, List, [], ◌∷◌, ◌++◌, ℕ, ◌+◌, eqb}
use Rattle.std.proofs.Math.Option.{Option, none, some}
use Rattle.why.specs.Why.{Told}
use Rattle.why_file.specs.Explaining.{Stage, in_factoring, in_solving, explain_file}
use Rattle.panel_text.specs.Text.{decimal, refused_text}

-- `no reason` and a newline
abbrev pub no_reason_line : List ℕ
no_reason_line = 110 ∷ 111 ∷ 32 ∷ 114 ∷ 101 ∷ 97 ∷ 115 ∷ 111 ∷ 110 ∷ 10 ∷ []

-- `column `
abbrev pub column_word : List ℕ
column_word = 99 ∷ 111 ∷ 108 ∷ 117 ∷ 109 ∷ 110 ∷ 32 ∷ []

-- `factoring: step `
abbrev pub step_word : List ℕ
step_word = 102 ∷ 97 ∷ 99 ∷ 116 ∷ 111 ∷ 114 ∷ 105 ∷ 110 ∷ 103 ∷ 58 ∷ 32 ∷ 115 ∷ 116 ∷ 101 ∷ 112 ∷ 32 ∷ []

-- `solving: lower pass`
abbrev pub lower_word : List ℕ
lower_word = 115 ∷ 111 ∷ 108 ∷ 118 ∷ 105 ∷ 110 ∷ 103 ∷ 58 ∷ 32 ∷ 108 ∷ 111 ∷ 119 ∷ 101 ∷ 114 ∷ 32 ∷ 112 ∷ 97 ∷ 115 ∷ 115 ∷ []

-- `solving: upper pass`
abbrev pub upper_word : List ℕ
upper_word = 115 ∷ 111 ∷ 108 ∷ 118 ∷ 105 ∷ 110 ∷ 103 ∷ 58 ∷ 32 ∷ 117 ∷ 112 ∷ 112 ∷ 101 ∷ 114 ∷ 32 ∷ 112 ∷ 97 ∷ 115 ∷ 115 ∷ []

-- `, column `
abbrev pub column_part : List ℕ
column_part = 44 ∷ 32 ∷ 99 ∷ 111 ∷ 108 ∷ 117 ∷ 109 ∷ 110 ∷ 32 ∷ []

-- `, row `
abbrev pub row_part : List ℕ
row_part = 44 ∷ 32 ∷ 114 ∷ 111 ∷ 119 ∷ 32 ∷ []

-- a word with a place behind it, which counts from 0
unfoldable pub place_text : List ℕ → ℕ → List ℕ
place_text word place = word ++ decimal (place + 1)

-- `, column C, row R` and the end of the line
unfoldable pub spot_text : ℕ → ℕ → List ℕ
spot_text column row = place_text column_part column ++ place_text row_part row ++ 10 ∷ []

-- pass 1 is the unit lower one
unfoldable pub pass_word : ℕ → List ℕ
pass_word pass = cond (eqb pass 1) lower_word upper_word

-- `column C` where a column is told
unfoldable pub column_line : Option ℕ → List ℕ
column_line none = []
column_line (some column) = place_text column_word column ++ 10 ∷ []

-- `factoring: step S, column C, row R` or `solving: lower pass, column C, row R`, where a place is told
unfoldable pub stage_line : Option Stage → List ℕ
stage_line none = []
stage_line (some (in_factoring p)) = place_text step_word p.step ++ spot_text p.column p.row
stage_line (some (in_solving p)) = pass_word p.pass ++ spot_text p.column p.row

unfoldable pub reason_text : Told Stage → List ℕ
reason_text t = cond (eqb t.number 0) no_reason_line (refused_text t.number ++ column_line t.column ++ stage_line t.place)

unfoldable pub why_text_of : List ℕ → List ℕ
why_text_of bytes = reason_text (explain_file bytes)
