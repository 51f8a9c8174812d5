-- After j columns, what is left gives the first result that is not finite and the solved columns (`Passing`). Assumes nothing.
use mathlib.Core.Path.{◌≡◌, refl, sym, ap, ◌∙◌}
use Prim.Native.Nat.{◌+◌, ◌-◌, ◌*◌}
use native.Mathlib.Omega.{arith}
use borrow.Rule.Slice.PartMut.{mid_of, same_len_mid}
use lib.ListN.{length}
use Rattle.store.specs.Columns.{columns}
use Rattle.store.proofs.Columns.{sized, length_columns, part_column, column_lent}
use Rattle.store.specs.Steps.{column}
use Rattle.triangular_passes.specs.Triangular.{solved_column}
use Rattle.solve.specs.Reason.{first_in_column}
use Rattle.why.proofs.Pass.{passing_begin, passing_on, passing_found, passing_end, same_column}
use Rattle.why.proofs.overflow_in_pass.Goals.{In-loop-j}
use Rattle.why.proofs.overflow_in_pass.Goals as goal

-- the part that is lent is column j, as it is now and as it was before
part_now : (c : In-loop-j) → let g = c.args in mid_of (c.loop-j.j * g.n) (c.loop-j.j * g.n + g.n - c.loop-j.j * g.n) c.loop-j.x
    ≡ column (columns g.n g.k c.loop-j.x) c.loop-j.j
part_now c = let g = c.args in part_column g.n g.k c.loop-j.j c.loop-j.x c.loop-j-test.true

part_is : (c : In-loop-j) → let g = c.args in mid_of (c.loop-j.j * g.n) (c.loop-j.j * g.n + g.n - c.loop-j.j * g.n) c.loop-j.x
    ≡ column (columns g.n g.k g.x.now) c.loop-j.j
part_is c =
    let g = c.args in
    part_now c ∙ same_column _ _ _ _ _ _ _ c.loop-j.invariant.1 (length_columns g.n g.k g.x.now) (length_columns g.n g.k c.loop-j.x)

pub returns-then-row-n : goal.returns-then-row-n
returns-then-row-n c =
    let g = c.args in
    let h = c.loop-j-test.true in
    let found = c.overflow_in_column-row.ensures.spoilt c.if-row-n.true in
    record {
      fine = λ l. absurd (let n : ⊥ = omega arith in n);
      spoilt = λ _. (
        found.0,
        passing_found _ _ _ _ _ _ _ c.loop-j.invariant.1 (length_columns g.n g.k g.x.now) (length_columns g.n g.k c.loop-j.x) h found.0 _
            (ap (first_in_column _ _ _ 0) (sym (part_is (goal.at.returns-then-row-n c).In-loop-j)) ∙ found.1),
      );
    }

pub loop-j-preserved : goal.loop-j-preserved
loop-j-preserved c =
    let g = c.args in
    let from = c.loop-j.j * g.n in
    let part = c.overflow_in_column-row.new.b in
    let kept : length part ≡ length (mid_of from (from + g.n - from) c.loop-j.x) = c.overflow_in_column-row.auto.b in
    let h = c.loop-j-test.true in
    let fine = c.overflow_in_column-row.ensures.fine c.if-row-n.false in
    let cs = columns g.n g.n g.t.now in
    let put = column_lent (λ _. part) g.n g.k c.loop-j.j c.loop-j.x part h c.loop-j.invariant.0 kept refl in
    let seen = part_is (goal.at.loop-j-preserved c).In-loop-j in (
      same_len_mid from (from + g.n - from) c.loop-j.x part kept ∙ c.loop-j.invariant.0,
      rw put
          (passing_on _ _ _ _ _ _ _ c.loop-j.invariant.1 (length_columns g.n g.k g.x.now) (length_columns g.n g.k c.loop-j.x) h part
          (ap (first_in_column g.pass g.n cs 0) (sym seen) ∙ fine.0)
          (fine.1 ∙ ap (solved_column g.pass g.n cs) (part_now (goal.at.loop-j-preserved c).In-loop-j))),
    )

pub returns : goal.returns
returns c =
    let g = c.args in
    let end = passing_end _ _ _ _ _ _ _ c.loop-j.invariant.1 (length_columns g.n g.k g.x.now) (length_columns g.n g.k c.loop-j.x) c.loop-j-test.false in
    record { fine = λ _. end; spoilt = λ h. absurd (let n : ⊥ = omega arith in n) }

pub loop-j-init : goal.loop-j-init
loop-j-init c = ((sized _ _ _ c.requires.1).size, passing_begin _ _ _ _ _)
