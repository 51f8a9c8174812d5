-- A multiplier, as it is formed: the entry times the pivot's reciprocal, and in a finite column no entry's magnitude is above the pivot's. Of the column
-- alone, so that it serves a step of the elimination and a column that is added. Assumes nothing.
use mathlib.Core.Path.{◌≡◌, ap, ◌∙◌}
use mathlib.Core.Bool.{true, false}
use Prim.Native.Nat.{ℕ, ◌+◌, ◌≤◌, ◌<◌}
use native.Mathlib.Omega.{arith}
use lib.ListN.{length}
use lib.Ieee.{Float, nan, binary64, mul, div}
use Rattle.numbers.specs.Numbers.{one64, is_zero}
use Rattle.numbers.specs.Column.{Column, entry}
use Rattle.numbers.proofs.Smaller.{smaller}
use Rattle.blas.specs.Blas.{swap_rows}
use Rattle.blas.proofs.Exchange.{other, other_from, other_range, other_first, length_exchanged, get_d_exchanged}
use Rattle.blas.proofs.Rows.{entry_scale_at}
use Rattle.finite.specs.Finite.{all_finite}
use Rattle.min_max.specs.Pivot.{pivot_row}
use Rattle.min_max.proofs.Pivot.{pivot_from, pivot_to, pivot_first}
use Rattle.elimination.specs.Elimination.{multipliers}
use Rattle.elimination.specs.Own.{own_column}

-- the multiplier l formed from an entry x and the pivot
pub record Formed (l x pivot : Float) : Type 0 where
  pub is : l ≡ mul binary64 x (div binary64 one64 pivot)
  pub nonzero : is_zero pivot ≡ false
  pub greatest : smaller pivot x ≡ false

module _ (k : ℕ) (c : Column) (ok : all_finite c ≡ true) (kc : k < length c) where
  abbrev p : ℕ
  p = pivot_row k c

  -- THEOREM. Where the pivot of a finite column is not zero, the multiplier of each row r below row k is formed from the entry that the swap brought there.
  pub formed : is_zero (entry c p) ≡ false → (r : ℕ) → k < r → r < length c → Formed (entry (own_column k c) r) (entry c (other k p r)) (entry c p)
  unfolding own_column multipliers
  formed live r kr rc =
      let pc : p < length c = pivot_to k c kc in
      let low : k ≤ p = pivot_from k c in
      record {
        is = rw live
            (entry_scale_at (k + 1) _ (swap_rows k p c) r (omega arith) (rw length_exchanged rc)
            ∙ (λ i. mul binary64 (get_d_exchanged nan k p c r kc pc i) (div binary64 one64 (get_d_exchanged nan k p c k kc pc i)))
            ∙ ap (λ (j : ℕ). mul binary64 (entry c (other k p r)) (div binary64 one64 (entry c j))) (other_first k p));
        nonzero = live;
        greatest = (pivot_first k c ok kc).greatest (other k p r) (other_from k p r k (omega arith) low (omega arith)) (other_range k p r (length c) kc pc rc);
      }
