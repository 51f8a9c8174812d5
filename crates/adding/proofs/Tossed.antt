-- The toss-ups of the calls: adding's 0 or 1 is the difference between the counts of factoring afresh, before and with the new column. By `toss_widened`,
-- on the factors that an accepted factoring left in the slices. Assumes nothing.
use mathlib.Core.Path.{◌≡◌, sym, ap, ◌∙◌}
use mathlib.Core.List.{List, ◌++◌}
use Prim.Native.Nat.{ℕ, ◌+◌}
use lib.ListN.{length}
use Rattle.numbers.specs.Column.{Column}
use Rattle.store.specs.Columns.{columns}
use Rattle.store.proofs.Columns.{columns_snoc}
use Rattle.refusals.specs.Outcome.{done}
use Rattle.factors.specs.declared.Record.{Record}
use Rattle.factors.specs.Factors.{Factors}
use Rattle.lu.specs.Factoring.{factoring}
use Rattle.elimination.specs.TossUps.{toss_ups, own_toss_up}
use Rattle.adding.specs.Adding.{older_factors}
use Rattle.adding.proofs.Afresh.{accepted_given, held}
use Rattle.lu.proofs.Shape.{size, shape}
use Rattle.elimination.proofs.Tossing.{toss_widened}

-- THEOREM. Those of the widened matrix are those of the matrix and the added column's own, z being in the slot behind the factors.
pub toss_added : (m n : ℕ) (a out : Column) (store : List ℕ) (told : Record) → (factoring a m n out store).answer ≡ done told → (c z : Column) → length c ≡ m
    → let o = factoring a m n out store in
    toss_ups m (columns m (n + 1) (a ++ c)) ≡ toss_ups m (columns m n a) + own_toss_up told.rows (older_factors (o.left.factors ++ z) o.left.store told) c
toss_added m n a out store told e c z lc =
    let given = accepted_given m n a out store told e in
    let none = given.none in
    rw (given.is, given.told_is)
    (ap (toss_ups m) (columns_snoc m n a c (size m n a out store none) lc)
    ∙ toss_widened m (columns m n a) c (shape m n a out store none) lc
    ∙ ap (λ (g : Factors). toss_ups m (columns m n a) + own_toss_up m g c) (sym (held m n a out store none z)))
