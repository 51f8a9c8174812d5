-- The updates that are left from column i on give the whole; a turn makes the next four of them, or those that are left. Assumes nothing.
use Prim.Native.Nat.{ℕ, ◌+◌, ◌-◌, ◌≤◌, ◌<◌, min}
use mathlib.Core.Path.{◌≡◌, sym, ap, ◌∙◌}
use native.Mathlib.Omega.{arith}
use borrow.Author.Tests.{leb-true, leb-false}
use lib.Dec.{leb}
use Rattle.numbers.specs.Each.{turns_from}
use Rattle.numbers.proofs.Choice.{test_cases}
use Rattle.numbers.proofs.Each.{turns_stop, turns_done}
use Rattle.store.proofs.Columns.{sized, same_matrix}
use Rattle.updates.specs.Updates.{updated_at}
use Rattle.elimination.proofs.Step.{turns_join}
use Rattle.updates.proofs.update_all.Goals as goal

-- the next w turns, or those that are left, and then the rest
turns_or_rest : {S : Type 0} (f : ℕ → S → S) (w i n to : ℕ) (s t : S) → i < n → to ≡ min (i + w) n → t ≡ turns_from f i (to - i) s
    → turns_from f (i + w) (n - (i + w)) t ≡ turns_from f i (n - i) s
turns_or_rest f w i n to s t h end made =
    test_cases (leb (i + w) n)
    (λ whole. let fits : i + w ≤ n = leb-true (i + w) n whole in
    let some : to - i ≡ w = omega arith in
    let all : w + (n - (i + w)) ≡ n - i = omega arith in
    ap (turns_from f (i + w) (n - (i + w))) (made ∙ ap (λ k. turns_from f i k s) some)
    ∙ turns_join f i w (n - (i + w)) s ∙ ap (λ k. turns_from f i k s) all)
    (λ part. let past : n < i + w = leb-false (i + w) n part in
    let last : to ≡ n = omega arith in
    turns_stop f (i + w) (n - (i + w)) t (omega arith) ∙ made ∙ ap (λ k. turns_from f i (k - i) s) last)

pub update_new-requires : goal.update_new-requires
update_new-requires c = (same_matrix _ _ _ _ c.loop-i.auto.s ∙ c.requires, omega arith, omega arith, omega arith)

pub loop-i-preserved : goal.loop-i-preserved
loop-i-preserved c =
    turns_or_rest (updated_at c.args.n) 4 _ _ _ _ _ c.loop-i-test.true c.min-to.ensures c.update_new.ensures ∙ c.loop-i.invariant

pub returns : goal.returns
returns c = sym (turns_done (updated_at c.args.n) _ _ _ c.loop-i-test.false) ∙ c.loop-i.invariant

pub overflow_add-i : goal.overflow_add-i
overflow_add-i c = omega (arith, (sized _ _ _ c.requires).rows_most)
