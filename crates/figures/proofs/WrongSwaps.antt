-- Two wrong programs for each call of `swap_list` and `permutation_sequence`, and for the pass of `exchanges`, as in `WrongAnswers`. Assumes nothing.
use mathlib.Core.Path.{◌≡◌, refl, ap}
use mathlib.Core.Bool.{Bool, true, false}
use mathlib.Core.List.{List, [], ◌∷◌}
use Prim.Native.Nat.{ℕ, ◌+◌}
use native.Mathlib.Omega.{arith}
use lib.ListN.{replicate}
use lib.Ieee.{neg, of_bits}
use Rattle.numbers.specs.Each.{each_from}
use Rattle.numbers.specs.Column.{Column}
use Rattle.finite.specs.Finite.{all_finite}
use Rattle.blas.specs.Blas.{exchanged}
use Rattle.store.specs.Columns.{columns, flat, is_matrix, on_columns}
use Rattle.store.specs.Steps.{swap_in_all}
use Rattle.refusals.specs.Outcome.{Outcome, first_holding, tested, Call}
use Rattle.refusals.specs.Refusals.{outside}
use Rattle.refusals.proofs.Strength.{ShutsOut, shut_out, BothShutOut, both, Strong, strong, done_refused}
use Rattle.swap_list.specs.SwapList.{pairs_of, holds, held, with_pair, good_pair, good_pairs, good_list}
use Rattle.exchanges.specs.Permute.{permuted_by, rows_permuted, in_order}
use Rattle.permutation_sequence.specs.Calls.{sign_of}
use Rattle.permutation_sequence.specs.Calls.{permuting_refusal, permuting, permuting_rows, permuting_columns}
use Rattle.swap_list.specs.Appending.{appending_refusal, Listed, listed, appending}
use Rattle.from_factors.proofs.Figures.{n1, n2}

-- a name for all that has to unfold for a list to be tested and applied
Applies : Type 0
unfolding neg of_bits each_from all_finite exchanged columns flat is_matrix on_columns swap_in_all first_holding outside tested pairs_of holds held
    with_pair good_pair
    good_pairs
    good_list permuted_by in_order sign_of permuting_refusal permuting appending_refusal appending
Applies = Unit {0}

-- a store of 128 numbers with the pair (0, 1) in front
abbrev swap : List ℕ
swap = 0 ∷ 1 ∷ replicate 126 0

-- ---- permuting: sizes, count, store and what the slice held

abbrev Permuted : Type 0
Permuted = ℕ × (ℕ × (ℕ × (List ℕ × Column)))

abbrev permutes : (Column → ℕ → ℕ → List ℕ → ℕ → Call (Unit {0}) Column) → Permuted → Call (Unit {0}) Column
permutes call x = call x.1.1.1.1 x.0 x.1.0 x.1.1.1.0 x.1.1.0

abbrev slice : Permuted → Column
slice x = x.1.1.1.1

-- two rows, or two columns, exchanged
abbrev two_rows : Permuted
two_rows = (2, (1, (1, (swap, n1 ∷ n2 ∷ []))))

abbrev two_columns : Permuted
two_columns = (1, (2, (1, (swap, n1 ∷ n2 ∷ []))))

exchanged_differs : n2 ∷ n1 ∷ [] ≡ n1 ∷ n2 ∷ [] → ⊥
exchanged_differs d = let z : ◌≡◌ {A = ℕ} 0 1 = cc in omega arith

pub permute_rows : BothShutOut (permutes (permuting_rows false)) slice
unfolding Applies
permute_rows = both (permutes (permuting_rows false)) slice two_rows refl exchanged_differs

pub inv_permute_rows : BothShutOut (permutes (permuting_rows true)) slice
unfolding Applies
inv_permute_rows = both (permutes (permuting_rows true)) slice two_rows refl exchanged_differs

pub permute_columns : BothShutOut (permutes (permuting_columns false)) slice
unfolding Applies
permute_columns = both (permutes (permuting_columns false)) slice two_columns refl exchanged_differs

pub inv_permute_columns : BothShutOut (permutes (permuting_columns true)) slice
unfolding Applies
inv_permute_columns = both (permutes (permuting_columns true)) slice two_columns refl exchanged_differs

-- without the tests: idle; and the same always
abbrev applied : Bool × Permuted → Column
applied x = on_columns x.1.0 x.1.1.0 (rows_permuted (in_order x.0 (held x.1.1.1.0 x.1.1.1.1.0))) (slice x.1)

pub apply_to_rows : Strong applied (ShutsOut applied (λ x. slice x.1))
unfolding Applies
apply_to_rows =
    strong applied (false, two_rows) (false, (2, (1, (0, (swap, n1 ∷ n2 ∷ []))))) exchanged_differs
    (shut_out applied (λ x. slice x.1) (false, two_rows) exchanged_differs)

-- ---- the tests: the same always; and the list untested

abbrev refusal : ℕ × Permuted → ℕ
refusal x = permuting_refusal (slice x.1) x.1.0 x.1.1.0 x.1.1.1.1.0 x.1.1.1.0 x.0

abbrev list_untested : ℕ × Permuted → ℕ
list_untested x = permuting_refusal (slice x.1) x.1.0 x.1.1.0 x.1.1.1.1.0 0 x.0

pub permuting_refusal_not_untested : Strong refusal (ShutsOut refusal list_untested)
unfolding Applies
permuting_refusal_not_untested =
    strong refusal (2, two_rows) (1, two_rows) (λ d. omega (arith, d))
    (shut_out refusal list_untested (1, two_rows) (λ d. omega (arith, d)))

-- bound, most, count, store: the same always; and the pairs unread
abbrev is_good : ℕ × (ℕ × (ℕ × List ℕ)) → Bool
is_good x = good_list x.1.1.1 x.1.1.0 x.0 x.1.0

pub is_good_list : Strong is_good (ShutsOut is_good (λ x. holds x.1.1.0 x.1.1.1))
unfolding Applies
is_good_list =
    strong is_good (2, (2, (1, swap))) (1, (2, (1, swap))) (λ d. let z : ◌≡◌ {A = ℕ} 0 1 = cc in omega arith)
    (shut_out is_good (λ x. holds x.1.1.0 x.1.1.1) (1, (2, (1, swap))) (λ d. let z : ◌≡◌ {A = ℕ} 0 1 = cc in omega arith))

-- ---- the sign: the same always; and one pair too many

pub determinant : Strong sign_of (ShutsOut sign_of (λ pairs. sign_of (pairs + 1)))
unfolding Applies
determinant =
    strong sign_of 0 1 (λ d. let z : ◌≡◌ {A = ℕ} 0 1 = cc in omega arith)
    (shut_out sign_of (λ pairs. sign_of (pairs + 1)) 0 (λ d. let z : ◌≡◌ {A = ℕ} 0 1 = cc in omega arith))

-- ---- appending: the same always; and nothing written

abbrev Append : Type 0
Append = ℕ × (ℕ × (ℕ × (ℕ × List ℕ)))

abbrev appends : Append → Call (Unit {0}) Listed
appends x = appending x.1.1.1.1 x.1.1.1.0 x.0 x.1.0 x.1.1.0

-- the pair (0, 1) for two rows; and for none, which is refused
abbrev fresh : Append
fresh = (2, (0, (1, (0, replicate 128 0))))

abbrev refused_append : Append
refused_append = (0, (0, (1, (0, replicate 128 0))))

abbrev NothingWritten : Type 0
NothingWritten = (answer : Append → Outcome (Unit {0})) → ShutsOut appends (λ x. record { answer = answer x; left = listed x.1.1.1.0 x.1.1.1.1 })

pub append_permutation : Strong appends NothingWritten
unfolding Applies
append_permutation =
    strong appends fresh refused_append (λ d. done_refused (ap (λ (o : Call (Unit {0}) Listed). o.answer) d))
    (λ answer. shut_out appends (λ x. record { answer = answer x; left = listed x.1.1.1.0 x.1.1.1.1 }) fresh
    (λ d. omega (arith, ap (λ (o : Call (Unit {0}) Listed). o.left.pairs) d)))
