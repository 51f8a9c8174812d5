-- std's swap reads with a default of its own, which no read within the list tells apart. By the tests of both places. Assumes nothing.
use Rattle.std.proofs.Common.{◌≡◌, ◌<◌, ℕ, List, [], ◌∷◌, length, set, sym, ap₂, ◌∙◌, arith}
use Rattle.std.proofs.lemmas.List.{get_or_default}
use Rattle.std.specs.List.{swap}
use Rattle.std.specs.Float.{nan, Float}
use borrow.Author.Tests.{lt-ltb, le-ltb}
use Rattle.blas.specs.Blas.{exchanged, swap_rows}
use Rattle.blas.proofs.Exchange.{exchanged_is}
use Rattle.blas.proofs.swap.Goals.{else-i-col-via-then-i-col+else-j-col, else-i-col-via-else-i-col}
use Rattle.blas.proofs.swap.Goals as goal

swap_is : (i j : ℕ) (l : List Float) → i < length l → j < length l → swap l i j ≡ swap_rows i j l
swap_is i j [] hi hj = absurd (omega arith)
swap_is i j (d ∷ l) hi hj =
    ap₂ (λ x y. set (set (d ∷ l) i x) j y) (get_or_default (d ∷ l) j d nan hj) (get_or_default (d ∷ l) i d nan hi)
    ∙ sym (exchanged_is nan i j (d ∷ l) hi hj)

pub returns-then-j-col : goal.returns-then-j-col
returns-then-j-col c = c.swap.ensures.after ∙ swap_is _ _ _ c.if-i-col.true c.if-j-col.true

pub returns-else-i-col : goal.returns-else-i-col
unfolding exchanged
returns-else-i-col c =
    elim c.else-i-col.branch [
      | else-i-col-via-then-i-col+else-j-col w ↦ rw (lt-ltb _ _ w.if-i-col.true, le-ltb _ _ w.if-j-col.false)
      | else-i-col-via-else-i-col w ↦ rw (le-ltb _ _ w.if-i-col.false)
    ]
