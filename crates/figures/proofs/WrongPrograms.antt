-- The wrong programs that document 01 names for factoring ("Strength of the contracts") do not meet the contract: none whose outcome is the contract's on
-- every input always gives 7, always leaves the identity as factors, or always copies its input, and it tells the number of swaps that the elimination
-- records; none that adds the first column rightly and afterwards merely copies meets adding's; and none that takes the column off without swapping rows
-- back, or always gives the same, meets removing's. Shown at the table's first inputs, by what an accepted factoring is, and at one more input. Assumes
-- nothing.
use mathlib.Core.Path.{◌≡◌, refl, sym, ap, ◌∙◌}
use mathlib.Core.Bool.{false}
use mathlib.Core.List.{List, [], ◌∷◌, ◌++◌}
use Prim.Native.Nat.{ℕ, ◌-◌, ◌*◌, ◌<◌}
use native.Mathlib.Omega.{arith}
use lib.ListN.{length, get_or, take, replicate}
use lib.IntN.{negsuc}
use lib.Ieee.{Float, fin}
use Rattle.numbers.specs.Each.{list_of}
use Rattle.numbers.specs.Column.{Column, zeros}
use Rattle.min_max.specs.TossUp.{shared_from, toss_up}
use Rattle.store.specs.Columns.{columns, flat}
use Rattle.store.specs.Steps.{Matrix}
use Rattle.factors.specs.declared.Record.{Record}
use Rattle.elimination.specs.Elimination.{eliminate}
use Rattle.factors.specs.Factors.{store_of, record_of, record_for, slices, Factoring, record_after}
use Rattle.lu.specs.Factoring.{factoring}
use Rattle.adding.specs.Adding.{adding}
use Rattle.elimination.specs.TossUps.{toss_at, toss_from, toss_ups}
use Rattle.elimination.specs.Removing.{last_pair, undoes, pairs_before, remove_column}
use Rattle.removing.specs.Removing.{good_undoing, removing_refusal, erased, removing_made, removing}
use Rattle.swap_list.specs.SwapList.{Swaps, with_pair}
use Rattle.from_factors.specs.Solving.{unit_column, identity}
use Rattle.from_factors.proofs.Accepted.{accepted_is}
use Rattle.figures.specs.Table.{determinant}
use Rattle.figures.proofs.Table.{every_line}
use Rattle.from_factors.proofs.Figures.{Computes, ones, told_in, n0, n1, n2, n4}
use Rattle.refusals.specs.Outcome.{Outcome, done, refused}
use Rattle.refusals.proofs.Strength.{TwoShutOut, two as shut-out-two, done_refused}

-- what a program for factoring gives for each input, and that it is what the contract gives
abbrev pub Program : Type 0
Program = ℕ → ℕ → Column → Column → List ℕ → Factoring

abbrev pub Meets : Program → Type 0
Meets p = (m n : ℕ) (a out : Column) (store : List ℕ) → p m n a out store ≡ factoring a m n out store

-- accepted, with these factors and swaps
abbrev accepted : Record → Column → Swaps → Factoring
accepted told factors swaps = record { answer = done told; left = slices factors (store_of swaps) }

-- the first line of the table
abbrev a : Column
a = n0 ∷ n2 ∷ n1 ∷ n0 ∷ []

abbrev given : Factoring
given = accepted (record_of 2 2 1 0) (n2 ∷ n0 ∷ n0 ∷ n1 ∷ []) ((0, 1) ∷ [])

first_line_factored : factoring a 2 2 (ones 4) (replicate 128 1) ≡ given
first_line_factored = let e = ap (λ l. get_or l 0 (determinant (done n0))) every_line in cc

module _ (p : Program) (meets : Meets p) where
  there : p 2 2 a (ones 4) (replicate 128 1) ≡ given
  there = meets 2 2 a (ones 4) (replicate 128 1) ∙ first_line_factored

  pub not_always_seven : ((m n : ℕ) (a out : Column) (store : List ℕ) → (p m n a out store).answer ≡ refused 7) → ⊥
  not_always_seven all = done_refused (sym (ap (λ (o : Factoring). o.answer) there) ∙ all 2 2 a (ones 4) (replicate 128 1))

  pub not_the_identity : ((n : ℕ) (a out : Column) (store : List ℕ) → (p n n a out store).left.factors ≡ flat (identity n)) → ⊥
  unfolding flat list_of unit_column
  not_the_identity all =
      let e = sym (ap (λ (o : Factoring). o.left.factors) there) ∙ all 2 a (ones 4) (replicate 128 1) in
      let z : ◌≡◌ {A = ℕ} 0 1 = cc in
      omega arith

  pub not_a_copy : ((m n : ℕ) (a out : Column) (store : List ℕ) → (p m n a out store).left.factors ≡ a) → ⊥
  not_a_copy all =
      let e = sym (ap (λ (o : Factoring). o.left.factors) there) ∙ all 2 2 a (ones 4) (replicate 128 1) in
      let z : ◌≡◌ {A = ℕ} 0 1 = cc in
      omega arith

  -- an invented number of swaps: it is the elimination's wherever the factoring is accepted, and 1 at the first line
  pub count_recorded : (m n : ℕ) (a out : Column) (store : List ℕ) (told : Record) → (p m n a out store).answer ≡ done told
      → told.pairs ≡ length (eliminate m (columns m n a)).swaps
  unfolding record_after
  count_recorded m n a out store told e =
      let ok : (factoring a m n out store).answer ≡ done told = sym (ap (λ (o : Factoring). o.answer) (meets m n a out store)) ∙ e in
      let d : done told ≡ done (record_for m n (eliminate m (columns m n a))) =
      sym ok ∙ ap (λ (o : Factoring). o.answer) (accepted_is m n a out store told ok) in
      ap (λ (o : Outcome Record). (record_after told o).pairs) d

  pub count_there : (p 2 2 (n0 ∷ n2 ∷ n1 ∷ n0 ∷ []) (ones 4) (replicate 128 1)).answer ≡ done (record_of 2 2 1 0)
  count_there = ap (λ (o : Factoring). o.answer) there

-- ---- adding
abbrev pub AddingProgram : Type 0
AddingProgram = Record → Column → Column → List ℕ → Factoring

-- (0, 2) was factored, and (1, 0) is added
abbrev one : Column
one = n0 ∷ n2 ∷ []

abbrev two : Column
two = n1 ∷ n0 ∷ []

abbrev before : Factoring
before = factoring one 2 1 (ones 2) (replicate 128 1)

added_line : adding (before.left.factors ++ ones 2) two before.left.store (told_in 2 1 before) ≡ given
added_line = let e = ap (λ l. get_or l 3 (determinant (done n0))) every_line in cc

factored_one : before ≡ accepted (record_of 2 1 1 0) (n2 ∷ n0 ∷ []) ((0, 1) ∷ [])
unfolding Computes
factored_one = refl

-- a program that merely copies the raw column behind the factors, from the second column on, does not meet adding's contract
pub not_a_copying_add : (p : AddingProgram) → ((r : Record) (s c : Column) (store : List ℕ) → p r s c store ≡ adding s c store r)
    → ((r : Record) (s c : Column) (store : List ℕ) → 0 < r.columns → (p r s c store).left.factors ≡ take (r.columns * r.rows) s ++ c) → ⊥
unfolding record_after
not_a_copying_add p meets copies =
    let r = record_of 2 1 1 0 in
    let s = n2 ∷ n0 ∷ n1 ∷ n1 ∷ [] in
    let store = store_of ((0, 1) ∷ []) in
    let there : adding s two store r ≡ given =
    ap (λ (o : Factoring). adding (o.left.factors ++ ones 2) two o.left.store (told_in 2 1 o)) (sym factored_one) ∙ added_line in
    let e : n2 ∷ n0 ∷ n0 ∷ n1 ∷ [] ≡ n2 ∷ n0 ∷ n1 ∷ n0 ∷ [] =
    sym (ap (λ (o : Factoring). o.left.factors) (meets r s two store ∙ there)) ∙ copies r s two store (omega arith) in
    let z : ◌≡◌ {A = ℕ} 0 1 = cc in
    omega arith

-- ---- removing
abbrev Removal : Type 0
Removal = Record × (Column × List ℕ)

abbrev removes : Removal → Factoring
removes x = removing x.1.0 x.1.1 x.0

-- the factors of the columns (4, 2, 0) and (0, 1, 2): the second exchanged the rows 1 and 2; and the same with no columns recorded
abbrev half : Float
half = fin false 1 (negsuc 0)

abbrev exchanged_rows : Removal
exchanged_rows = (record_of 3 2 1 0, (n4 ∷ n0 ∷ half ∷ n0 ∷ n2 ∷ half ∷ [], store_of ((1, 2) ∷ [])))

abbrev no_columns : Removal
no_columns = (record_of 3 0 0 0, (n4 ∷ n0 ∷ half ∷ n0 ∷ n2 ∷ half ∷ [], store_of ((1, 2) ∷ [])))

rows_back : removes exchanged_rows ≡ accepted (record_of 3 1 0 0) (n4 ∷ half ∷ n0 ∷ n0 ∷ n0 ∷ n0 ∷ []) []
unfolding Computes with_pair last_pair undoes pairs_before remove_column good_undoing removing_refusal erased removing_made removing
rows_back = refl

none_left : (removes no_columns).answer ≡ refused 1
unfolding Computes removing_refusal removing
none_left = refl

-- the column and its pair taken off, and the older columns left as they stand
abbrev no_rows_back : Removal → Factoring
no_rows_back x =
    let unswapped = take ((x.0.columns - 1) * x.0.rows) x.1.0 ++ zeros x.0.rows in
    record { answer = (removes x).answer; left = slices unswapped (removes x).left.store }

pub remove_column_not_unswapped : TwoShutOut removes no_rows_back
unfolding Computes
remove_column_not_unswapped =
    shut-out-two removes no_rows_back exchanged_rows exchanged_rows no_columns
    (λ d.
    let e : ◌≡◌ {A = Column} (n4 ∷ half ∷ n0 ∷ n0 ∷ n0 ∷ n0 ∷ []) (n4 ∷ n0 ∷ half ∷ n0 ∷ n0 ∷ n0 ∷ []) =
    sym (ap (λ (o : Factoring). o.left.factors) rows_back) ∙ ap (λ (o : Factoring). o.left.factors) d in
    let z : ◌≡◌ {A = ℕ} 1 0 = cc in
    omega arith)
    (λ d. done_refused (sym (ap (λ (o : Factoring). o.answer) rows_back) ∙ ap (λ (o : Factoring). o.answer) d ∙ none_left))

-- ---- toss-ups: the same always, and the number of swaps for them; at the column (1, 1), which has one, and at (1, 0)
abbrev tosses : ℕ × Matrix → ℕ
tosses x = toss_ups x.0 x.1

abbrev swaps_recorded : ℕ × Matrix → ℕ
swaps_recorded x = length (eliminate x.0 x.1).swaps

pub toss_ups_not_swaps : TwoShutOut tosses swaps_recorded
unfolding Computes shared_from toss_up toss_at toss_from toss_ups
toss_ups_not_swaps =
    shut-out-two tosses swaps_recorded (2, (n1 ∷ n1 ∷ []) ∷ []) (2, (n1 ∷ n1 ∷ []) ∷ []) (2, (n1 ∷ n0 ∷ []) ∷ [])
    (λ d. omega (arith, d)) (λ d. omega (arith, d))
