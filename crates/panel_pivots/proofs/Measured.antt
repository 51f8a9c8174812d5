-- The answer for a file from its parts: the pivots of the factors, the matrix, the toss-ups; and that its numbers are no NaN. Assumes nothing.
use mathlib.Core.Path.{◌≡◌, refl, sym, ap, subst, ◌∙◌}
use mathlib.Core.Bool.{not}
use mathlib.Core.List.{List}
use Prim.Native.Nat.{ℕ}
use lib.Dec.{T}
use lib.Ieee.{Float, is_nan}
use lib.ListN.{length}
use Rattle.numbers.specs.Column.{Column}
use Rattle.numbers.proofs.Each.{length_list}
use Rattle.std.proofs.Common.{Result, Ok, Err}
use Rattle.std.specs.Result.{IsErrAnd}
use Rattle.refusals.specs.declared.Refusal.{Refusal}
use Rattle.refusals.specs.Outcome.{Outcome, done, refused, number}
use Rattle.refusals.proofs.Outcomes.{handed_on}
use Rattle.refusals.proofs.Cases.{tested_done}
use Rattle.panel_file.specs.File.{pads_of, matrix_of}
use Rattle.panel_file.specs.Reading.{file_refusal}
use Rattle.crossing.specs.Below.{Packed, factors_of}
use Rattle.crossing.specs.Factors.{factors_in, toss_ups_in}
use Rattle.panel_pivots.specs.declared.Pivots.{Pivots}
use Rattle.panel_pivots.specs.Outermost.{Greatest, Least, diagonal_of}
use Rattle.panel_pivots.specs.Pivots.{Spans, Spanned, Measured, MeasuredAs}

-- of the diagonal that was copied
pub spanned : (n tossed : ℕ) (t p : Column) (most g l : Float) → p ≡ diagonal_of t n → Greatest p (length p) g → Least p (length p) l
    → Spanned t n tossed most (record { toss_ups = tossed; matrix = most; greatest = g; least = l })
spanned n tossed t p most g l e a b =
    let count : length p ≡ n = ap length e ∙ length_list n _ in
    record {
      toss_ups = refl;
      matrix = refl;
      spans = record {
        greatest = subst (λ k. Greatest (diagonal_of t n) k g) count (subst (λ d. Greatest d (length p) g) e a);
        least = subst (λ k. Least (diagonal_of t n) k l) count (subst (λ d. Least d (length p) l) e b);
      };
    }

module _ (bytes : List ℕ) where
  file_none : (f : Packed) → factors_in bytes ≡ done f → file_refusal bytes ≡ 0
  unfolding factors_in
  file_none f e = (tested_done (file_refusal bytes) (factors_of (matrix_of (pads_of bytes) bytes) (pads_of bytes)) f e).0

  pub measured : (f : Packed) (n tossed : ℕ) (most : Float) (r : Pivots) → factors_in bytes ≡ done f → n ≡ pads_of bytes → tossed ≡ toss_ups_in bytes
      → (file_refusal bytes ≡ 0 → Greatest (matrix_of (pads_of bytes) bytes) (length (matrix_of (pads_of bytes) bytes)) most)
      → Spanned f.factors n tossed most r → MeasuredAs bytes (factors_in bytes) (Ok r)
  unfolding MeasuredAs
  measured f n tossed most r e is-n is-tossed top s =
      let m : Measured bytes f r =
      record {
        toss_ups = s.toss_ups ∙ is-tossed;
        matrix = rw s.matrix (top (file_none f e));
        spans = subst (λ k. Spans f.factors k r.greatest r.least) is-n s.spans;
      } in
      subst (λ o. MeasuredAs bytes o (Ok r)) (sym e) m

  pub measured_refused : (k : Refusal) (answer : Result Pivots Refusal) → factors_in bytes ≡ refused (number k) → IsErrAnd answer (λ e. e ≡ k)
      → MeasuredAs bytes (factors_in bytes) answer
  unfolding MeasuredAs
  measured_refused k answer e h = rw (handed_on k answer h) (subst (λ o. MeasuredAs bytes o (Err k)) (sym e) refl)

  numbers : (o : Outcome Packed) (r : Pivots) → MeasuredAs bytes o (Ok r)
      → T (not (is_nan r.matrix)) × T (not (is_nan r.greatest)) × T (not (is_nan r.least))
  unfolding MeasuredAs
  numbers (done f) r x = (x.matrix.number, x.spans.greatest.number, x.spans.least.number)
  numbers (refused k) r x = absurd x

  pub measured_numbers : (o : Outcome Packed) (answer : Result Pivots Refusal) → MeasuredAs bytes o answer → (r : Pivots) → answer ≡ Ok r
      → T (not (is_nan r.matrix)) × T (not (is_nan r.greatest)) × T (not (is_nan r.least))
  measured_numbers o answer x r e = numbers o r (subst (λ q. MeasuredAs bytes o q) e x)
