-- Each outcome of the profile, from what the parts ensure. The general path's tests compute on four columns of four entries, all but those of numbers, of the
-- swap list and of the diagonal. Assumes nothing.
use mathlib.Core.Path.{◌≡◌, refl, sym, ap, ◌∙◌}
use mathlib.Core.Bool.{true, false, cond, ◌&&◌}
use mathlib.Core.List.{append-nil}
use native.Mathlib.Omega.{arith}
use borrow.Author.Tests.{eq-eqb}
use lib.ListN.{length, replicate}
use Rattle.numbers.specs.Each.{each_from}
use Rattle.numbers.specs.Column.{Column, zeros}
use Rattle.numbers.proofs.Choice.{test_cases, and_first, and_second}
use Rattle.finite.specs.Finite.{all_finite}
use Rattle.store.specs.Columns.{columns, flat, is_matrix}
use Rattle.store.specs.Steps.{Matrix}
use Rattle.store.proofs.Columns.{columns_rows}
use Rattle.dead_columns.specs.Dead.{dead_of, dead_in}
use Rattle.refusals.specs.Outcome.{first_holding, tested, and_then}
use Rattle.refusals.specs.Refusals.{outside, seventh}
use Rattle.swap_list.specs.SwapList.{Swaps, pairs_of}
use Rattle.exchanges.specs.Permute.{permute}
use Rattle.factors.specs.Factors.{Factors, store_of, record_for}
use Rattle.factors.specs.Held.{held_refusal}
use Rattle.factors.proofs.Swaps.{length_store, pairs_store}
use Rattle.elimination.proofs.Recorded.{Rising, eliminate_rising, rising_few, rising_good}
use Rattle.lu.specs.Factoring.{factoring_refusal, settled, factoring}
use Rattle.from_factors.specs.Solving.{solved, solved_all, solve_asks, solving}
use Rattle.four_by_four.specs.declared.System.{System}
use Rattle.four_by_four.specs.declared.Reduced.{Reduced}
use Rattle.four_by_four.specs.System.{listed, matrix_of, recorded_by, Eliminated}
use Rattle.four_passes.specs.Passes.{is_dead, lower_by, upper_by}
use Rattle.four_pads.specs.declared.Pairs.{Pairs}
use Rattle.four_pads.specs.declared.FourPads.{FourPads}
use Rattle.four_pads.specs.Profile.{refused_with, profile_of, general_path, four_of}
use Rattle.four_pads.specs.Inner.{held_as, loaded_by}

-- ---- what finite factors come to, by the diagonal and by the loads
module _ (e : Reduced) where
  abbrev f : System
  f = e.system

  abbrev w : Swaps
  w = recorded_by e.p e.q e.r

  abbrev loads : Column
  loads = upper_by f (lower_by f (listed f.x))

  pub loaded_six : is_dead f ≡ true → refused_with 6 ≡ loaded_by e
  unfolding loaded_by
  loaded_six z = rw z

  module _ (z : is_dead f ≡ false) (x : Column) (made : x ≡ loads) where
    pub loaded_seven : all_finite x ≡ false → refused_with 7 ≡ loaded_by e
    unfolding loaded_by
    loaded_seven h = let y = ap all_finite (sym made) ∙ h in rw (z, y)

    pub loaded_all : all_finite x ≡ true → (factors : Column) → factors ≡ flat (matrix_of f) → (pairs : Pairs) → pairs ≡ held_as w
        → ◌≡◌ {A = FourPads} (record { number = 0; factors = factors; pairs = pairs.0; swaps = pairs.1; loads = x }) (loaded_by e)
    unfolding loaded_by
    loaded_all h factors df pairs dp =
        let y = ap all_finite (sym made) ∙ h in
        rw (z, y) (λ i. record { number = 0; factors = df i; pairs = (dp i).0; swaps = (dp i).1; loads = made i })

-- ---- the general path
module _ (s : System) where
  abbrev a : Column
  a = flat (matrix_of s)

  abbrev b : Column
  b = listed s.x

  pub refused_five : (all_finite a && all_finite b) ≡ false → refused_with 5 ≡ four_of a b
  unfolding four_of profile_of tested first_holding
  refused_five e = rw e

  module _ (ok : (all_finite a && all_finite b) ≡ true) (e : Reduced) (made : Eliminated s e) where
    abbrev F : Matrix
    F = matrix_of (f e)

    abbrev factors : Factors
    factors = record { columns = F; swaps = w e }

    past : factoring a 4 4 (zeros 16) (replicate 128 0) ≡ settled 4 4 factors
    unfolding factoring factoring_refusal tested first_holding outside is_matrix columns flat
    past =
        let fine = and_first (all_finite a) (all_finite b) ok in
        rw fine (sym (λ i. settled 4 4 (record { columns = made.columns i; swaps = made.swaps i })))

    pub refused_seven : all_finite (flat F) ≡ false → refused_with 7 ≡ four_of a b
    unfolding four_of profile_of general_path tested first_holding settled
    refused_seven h = rw (ok, past, h)

    rising : Rising 4 4 (w e)
    unfolding columns flat
    rising = rw made.swaps (eliminate_rising 4 (matrix_of s) (columns_rows 4 4 a refl))

    module _ (finite : all_finite (flat F) ≡ true) where
      -- of the tests of a solve only the diagonal's is left
      diagonal_left : held_refusal (flat F) (store_of (w e)) (record_for 4 4 factors) (solve_asks b 4 1 (zeros 4)) ≡ cond (is_dead (f e)) 6 0
      unfolding held_refusal first_holding outside is_matrix columns flat dead_of
      diagonal_left =
          let few = rising_few 4 4 (w e) rising in
          rw (
            eq-eqb (length (store_of (w e))) 128 (length_store (w e) (omega arith)),
            rising_good 4 4 (w e) (omega arith) rising,
            finite,
            and_second (all_finite a) (all_finite b) ok,
            eq-eqb (dead_in 4 F) (dead_in 4 F) refl,
          )

      solved_is : flat (solved_all solved 4 (columns 4 4 (flat F)) (pairs_of (length (w e)) (store_of (w e))) (columns 4 1 b)) ≡ loads e
      unfolding solved_all solved columns flat each_from
      solved_is =
          append-nil (solved 4 F (pairs_of (length (w e)) (store_of (w e))) b)
          ∙ ap (λ (v : Swaps). upper_by (f e) (lower_by (f e) (permute v b))) (pairs_store (w e) ∙ made.swaps)
          ∙ ap (λ (x : Column). upper_by (f e) (lower_by (f e) x)) (sym made.readings)

      pub loaded_is : loaded_by e ≡ four_of a b
      unfolding four_of profile_of general_path settled solving tested first_holding seventh loaded_by
      loaded_is =
          rw (ok, past, finite, diagonal_left, solved_is)
          (test_cases (is_dead (f e)) (λ z. rw z) (λ z. test_cases (all_finite (loads e)) (λ y. rw (z, y)) (λ y. rw (z, y))))
