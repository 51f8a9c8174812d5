-- The turns that are left from diagonal i on give the whole product; what is made so far keeps its range, so the next turn has room. Assumes nothing.
use mathlib.Core.Path.{◌≡◌, sym, ap, ◌∙◌, subst}
use Prim.Native.Nat.{ℕ, suc, ◌*◌, ◌+◌}
use native.Mathlib.Numerals.{add-one}
use native.Mathlib.Omega.{arith}
use lib.ListN.{get_or}
use lib.Ieee.{nan}
use Rattle.numbers.proofs.Each.{turns_begin, turns_next, turns_done}
use Rattle.store.specs.Columns.{columns}
use Rattle.store.proofs.Columns.{sized}
use Rattle.scaled_determinant.specs.Scaled.{scaled_times}
use Rattle.scaled_determinant.specs.Determinant.{scaled_turn, scaled_product}
use Rattle.scaled_determinant.specs.Inner.{Parted}
use Rattle.scaled_determinant.proofs.Exponents.{mag_within}
use Rattle.scaled_determinant.proofs.Parts.{parted_fine}
use Rattle.scaled_determinant.proofs.Range.{Bounded, bounded_start, bounded_step}
use Rattle.scaled_determinant.proofs.Diagonal.{diagonal_is, diagonal_parted}
use Rattle.scaled_determinant.proofs.scaled_product.Goals.{In-loop-i}
use Rattle.scaled_determinant.proofs.scaled_product.Goals as goal

-- in a turn, the diagonal's number has parts
parted : (c : In-loop-i) → Parted (get_or c.args.factors.now (c.loop-i.i * c.args.n + c.loop-i.i) nan)
parted c = diagonal_parted c.args.n c.args.factors.now c.requires.0 c.requires.1 c.requires.2 c.loop-i.i c.loop-i-test.true

pub loop-i-init : goal.loop-i-init
unfolding scaled_product
loop-i-init c = ((sized _ _ _ c.requires.0).size, turns_begin _ _ _, bounded_start)

pub times-r-requires : goal.times-r-requires
times-r-requires c =
    let few = (sized _ _ _ c.requires.0).rows_most in
    let i = c.loop-i.i in (
      parted (goal.at.times-r-requires c).In-loop-i,
      omega (
        arith,
        few,
        c.loop-i-test.true,
        mag_within i c.loop-i.r.exponent
            (omega (arith, few, c.loop-i-test.true)) c.loop-i.invariant.2.within,
      ),
    )

pub loop-i-preserved : goal.loop-i-preserved
unfolding scaled_turn
loop-i-preserved c =
    let n = c.args.n in
    let factors = c.args.factors.now in
    let i = c.loop-i.i in
    let h = c.loop-i-test.true in
    let x = get_or factors (i * n + i) nan in
    let made : c.times-r.result ≡ scaled_times c.loop-i.r x = c.times-r.ensures in (
      c.loop-i.invariant.0,
      turns_next (scaled_turn (columns n n factors)) i n _ _ h (made ∙ ap (scaled_times c.loop-i.r) (diagonal_is n factors c.requires.0 i h))
          ∙ c.loop-i.invariant.1,
      subst (λ (k : ℕ). Bounded k c.times-r.result) (sym (add-one i))
          (subst (Bounded (suc i)) (sym made)
          (bounded_step i c.loop-i.r x (c.shared_slice_known-in-loop-i-1.given (i * n + i)) (parted_fine x (parted (goal.at.loop-i-preserved c).In-loop-i))
          c.loop-i.invariant.2)),
    )

pub returns : goal.returns
returns c = sym (turns_done _ _ _ _ c.loop-i-test.false) ∙ c.loop-i.invariant.1
