-- What is printed for a panel file: of the loads of its pads, of how a pad's load moves, and of its stiffness.
use Rattle.std.specs.Prelude.{List, ℕ}
use Rattle.numbers.specs.Column.{Column}
use Rattle.refusals.specs.Outcome.{Outcome, done, refused}
use Rattle.ranking.specs.Ranking.{ranked, pads_to}
use Rattle.panel_file.specs.File.{pads_of}
use Rattle.scaled_determinant.specs.declared.Scaled.{Scaled}
use Rattle.crossing.specs.Factors.{stiffness, loads_of}
use Rattle.crossing_pads.specs.Moving.{moves_of}
use Rattle.panel_text.specs.Text.{pads_text, moves_text, scaled_text, refused_text}

-- the n pads in rank order with their loads, or the refusal
unfoldable pub order_text : ℕ → Outcome Column → List ℕ
order_text n (done loads) = pads_text n loads (ranked loads (pads_to n))
order_text n (refused number) = refused_text number

unfoldable pub text_of : List ℕ → List ℕ
text_of bytes = order_text (pads_of bytes) (loads_of bytes)

-- a line a reading, or the refusal
unfoldable pub change_text : Outcome Column → List ℕ
change_text (done moves) = moves_text moves
change_text (refused number) = refused_text number

unfoldable pub moves_text_of : List ℕ → ℕ → List ℕ
moves_text_of bytes pad = change_text (moves_of bytes pad)

-- the scaled determinant, or the refusal
unfoldable pub check_text : Outcome Scaled → List ℕ
check_text (done r) = scaled_text r
check_text (refused number) = refused_text number

unfoldable pub stiffness_text_of : List ℕ → List ℕ
stiffness_text_of bytes = check_text (stiffness bytes)
