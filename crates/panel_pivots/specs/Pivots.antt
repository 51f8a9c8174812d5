-- How the elimination of a panel file's matrix went.
use Rattle.std.specs.Prelude.{◌≡◌, List, ℕ, Float, length, Result, Ok, Err}
use Rattle.numbers.specs.Column.{Column}
use Rattle.refusals.specs.declared.Refusal.{Refusal}
use Rattle.refusals.specs.Outcome.{Outcome, done, refused, number}
use Rattle.panel_file.specs.File.{pads_of, matrix_of}
use Rattle.crossing.specs.Below.{Packed}
use Rattle.crossing.specs.Factors.{toss_ups_in}
use Rattle.panel_pivots.specs.declared.Pivots.{Pivots}
use Rattle.panel_pivots.specs.Outermost.{Greatest, Least, diagonal_of}

-- g and l are the greatest and the least magnitude on the diagonal of the n by n factors t
pub record Spans (t : Column) (n : ℕ) (g l : Float) : Type 0 where
  pub greatest : Greatest (diagonal_of t n) n g
  pub least : Least (diagonal_of t n) n l

-- an answer that says so, beside what was known already
pub record Spanned (t : Column) (n : ℕ) (tossed : ℕ) (most : Float) (r : Pivots) : Type 0 where
  pub toss_ups : r.toss_ups ≡ tossed
  pub matrix : r.matrix ≡ most
  pub spans : Spans t n r.greatest r.least

-- the whole answer for a file whose factors are these, or that is refused
pub record Measured (bytes : List ℕ) (f : Packed) (r : Pivots) : Type 0 where
  pub toss_ups : r.toss_ups ≡ toss_ups_in bytes
  pub matrix : Greatest (matrix_of (pads_of bytes) bytes) (length (matrix_of (pads_of bytes) bytes)) r.matrix
  pub spans : Spans f.factors (pads_of bytes) r.greatest r.least

unfoldable pub MeasuredAs : List ℕ → Outcome Packed → Result Pivots Refusal → Type 0
MeasuredAs bytes (done f) (Ok r) = Measured bytes f r
MeasuredAs bytes (done f) (Err refusal) = ⊥
MeasuredAs bytes (refused k) (Ok r) = ⊥
MeasuredAs bytes (refused k) (Err refusal) = number refusal ≡ k
