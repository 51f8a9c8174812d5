-- A panel: the steps on the front columns alone, then their swaps and updates on each column behind them, are the steps on the whole matrix. Column by column
-- by `steps_widen`. Assumes nothing.
use mathlib.Core.Path.{◌≡◌, sym, ap, ◌∙◌}
use mathlib.Core.List.{[], ◌∷◌, ◌++◌, append_assoc, append-nil}
use Prim.Native.Nat.{ℕ, suc, ◌+◌, ◌≤◌}
use native.Mathlib.Omega.{arith}
use borrow.Author.Tests.{ltb-true, ltb-false}
use lib.Dec.{ltb}
use lib.ListN.{length, drop, length-append, get_or-append}
use lib.Seq.{get_or-append_seam}
use Rattle.numbers.specs.Each.{each_from, turns_from}
use Rattle.numbers.specs.Column.{Column}
use Rattle.numbers.proofs.Choice.{test_cases}
use Rattle.numbers.proofs.Each.{each_same}
use Rattle.store.specs.Columns.{HasRows}
use Rattle.store.specs.Steps.{Matrix}
use Rattle.exchanges.specs.Permute.{permute}
use Rattle.factors.specs.Factors.{Factors}
use Rattle.elimination.specs.Elimination.{step}
use Rattle.elimination.specs.Adding.{widen}
use Rattle.elimination.specs.TossUps.{toss_from}
use Rattle.elimination.proofs.Step.{length_turns}
use Rattle.elimination.proofs.Tossing.{toss_front}
use Rattle.updates.proofs.Updates.{updates_same}
use Rattle.elimination.proofs.Widen.{updates, after_steps, steps_widen}

-- factors with more columns behind them
abbrev pub extend : Factors → Matrix → Factors
extend f rest = record { columns = f.columns ++ rest; swaps = f.swaps }

-- factors with other columns
abbrev with : Matrix → Factors → Factors
with cs f = record { columns = cs; swaps = f.swaps }

rows_snoc : (m : ℕ) (cs : Matrix) (c : Column) → HasRows m cs → length c ≡ m → HasRows m (cs ++ c ∷ [])
rows_snoc m cs c rows len j h =
    test_cases (ltb j (length cs))
    (λ t. let l = ltb-true j (length cs) t in rw (get_or-append cs (c ∷ []) [] j l) (rows j l))
    (λ t.
    let e : j ≡ length cs = omega (arith, ltb-false j (length cs) t, h, length-append cs (c ∷ [])) in
    rw (e, get_or-append_seam cs c [] []) len)

-- what the panel's factors g make of the columns behind it
abbrev pub passed : ℕ → ℕ → ℕ → Factors → Matrix → Matrix
passed i k h g rest = each_from (λ j c. after_steps i k h g c) 0 rest

-- the same by factors with one column more
passed_widen : (i k h : ℕ) (g : Factors) (y : Column) → i + k ≤ length g.columns → (x : Column) → after_steps i k h (widen g y) x ≡ after_steps i k h g x
unfolding after_steps updates
passed_widen i k h g y l x =
    updates_same (g.columns ++ y ∷ []) g.columns i k (permute (drop h g.swaps) x) (λ q t. get_or-append g.columns (y ∷ []) [] q (omega arith))

-- THEOREM. The steps on the whole: those on the front, and what they make of each column behind it.
pub panel_steps : (m i k : ℕ) (f : Factors) (rest : Matrix) → i + k ≤ m → i + k ≤ length f.columns → HasRows m f.columns → HasRows m rest
    → turns_from step i k (extend f rest) ≡ extend (turns_from step i k f) (passed i k (length f.swaps) (turns_from step i k f) rest)
unfolding each_from
panel_steps m i k f [] hm hn rows behind =
    ap (λ (cs : Matrix). turns_from step i k (with cs f)) (append-nil f.columns)
    ∙ ap (λ (cs : Matrix). with cs (turns_from step i k f)) (sym (append-nil (turns_from step i k f).columns))
panel_steps m i k f (c ∷ rest) hm hn rows behind =
    let h = length f.swaps in
    let g = turns_from step i k f in
    let y = after_steps i k h g c in
    let kg : i + k ≤ length g.columns = rw (length_turns i k f) hn in
    let one : turns_from step i k (widen f c) ≡ widen g y = steps_widen m f c rows i k hm hn in
    let len : length c ≡ m = behind 0 (omega arith) in
    ap (λ (cs : Matrix). turns_from step i k (with cs f)) (sym (append_assoc f.columns (c ∷ []) rest))
    ∙ panel_steps m i k (widen f c) rest hm (omega (arith, length-append f.columns (c ∷ []))) (rows_snoc m f.columns c rows len)
    (λ j l. behind (suc j) (omega arith))
    ∙ ap (λ (e : Factors). extend e (passed i k h e rest)) one
    ∙ ap (λ (ds : Matrix). extend (widen g y) ds) (each_same _ _ 0 rest (λ j x l t. passed_widen i k h g y kg x))
    ∙ ap (λ (cs : Matrix). with cs g) (append_assoc g.columns (y ∷ []) (passed i k h g rest))

pub panel_toss : (i k : ℕ) (f : Factors) (rest : Matrix) → i + k ≤ length f.columns → toss_from i k (extend f rest) ≡ toss_from i k f
panel_toss i k f [] h = ap (λ (cs : Matrix). toss_from i k (with cs f)) (append-nil f.columns)
panel_toss i k f (c ∷ rest) h =
    ap (λ (cs : Matrix). toss_from i k (with cs f)) (sym (append_assoc f.columns (c ∷ []) rest))
    ∙ panel_toss i k (widen f c) rest (omega (arith, length-append f.columns (c ∷ [])))
    ∙ toss_front k i f c h
