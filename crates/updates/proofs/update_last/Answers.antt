-- By the tests, and what the updates give past them. Assumes nothing.
use mathlib.Core.Path.{◌≡◌, sym, ap, ◌∙◌}
use mathlib.Core.Bool.{true}
use Prim.Native.Nat.{◌+◌, ◌-◌, min}
use native.Mathlib.Omega.{arith}
use Rattle.numbers.specs.Each.{turns_from}
use Rattle.store.specs.Columns.{columns, is_matrix}
use Rattle.store.proofs.Columns.{on_none}
use Rattle.factors.proofs.Held.{too_wide}
use Rattle.updates.specs.Updates.{updated_at}
use Rattle.updates.proofs.Updates.{last_made}
use Rattle.updates.proofs.update_last.Goals as goal

pub returns-then-n-gt63 : goal.returns-then-n-gt63
returns-then-n-gt63 c = on_none _ _ _ _ (too_wide _ _ _ (omega arith))

pub returns-then-not-is_matrix : goal.returns-then-not-is_matrix
returns-then-not-is_matrix c = on_none _ _ _ _ (sym c.is_matrix.ensures ∙ c.if-not-is_matrix.true)

pub update_each-requires : goal.update_each-requires
update_each-requires c =
    let fits : let g = c.args in is_matrix g.s.now g.m (g.n + 1) ≡ true = sym c.is_matrix.ensures ∙ c.if-not-is_matrix.false in
    (fits, omega arith, omega (arith, c.min-by.ensures), omega arith, omega (arith, c.min-by.ensures))

pub returns-then-by-lt4 : goal.returns-then-by-lt4
returns-then-by-lt4 c =
    let fits : let g = c.args in is_matrix g.s.now g.m (g.n + 1) ≡ true = sym c.is_matrix.ensures ∙ c.if-not-is_matrix.false in
    let g = c.args in
    let all : c.min-by.result - 0 ≡ min g.m g.n = omega (arith, c.min-by.ensures) in
    last_made _ _ _ _ fits c.update_each.auto.s
    (c.update_each.ensures ∙ ap (λ k. turns_from (updated_at g.n) 0 k (columns g.m (g.n + 1) g.s.now)) all)

pub update_all-requires : goal.update_all-requires
update_all-requires c =
    let fits : let g = c.args in is_matrix g.s.now g.m (g.n + 1) ≡ true = sym c.is_matrix.ensures ∙ c.if-not-is_matrix.false in
    fits

pub returns : goal.returns
returns c =
    let fits : let g = c.args in is_matrix g.s.now g.m (g.n + 1) ≡ true = sym c.is_matrix.ensures ∙ c.if-not-is_matrix.false in
    last_made _ _ _ _ fits c.update_all.auto.s c.update_all.ensures
