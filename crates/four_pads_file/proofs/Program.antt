-- The profile beside the program, on every file. A file of another size is refused with 1. On any other the profile gives the number that the program gives,
-- and where both accept, the factors and swaps of the file's matrix and the loads that the program ranks. By the cases of the outcomes. Assumes nothing.
use mathlib.Core.Path.{◌≡◌, refl, sym, ap, ◌∙◌}
use mathlib.Core.Bool.{true, false}
use mathlib.Core.List.{List}
use Prim.Native.Nat.{ℕ}
use borrow.Author.Tests.{eq-eqb, ne_eqb}
use lib.ListN.{take}
use Rattle.numbers.specs.Column.{Column}
use Rattle.numbers.proofs.Choice.{test_cases}
use Rattle.refusals.specs.Outcome.{Outcome, done, refused, number_of, first_holding, tested, and_then}
use Rattle.panel_file.specs.File.{headed, pads_of, readings_of}
use Rattle.panel_file.specs.Reading.{file_tests, file_refusal}
use Rattle.crossing.specs.Below.{Packed, solution_by}
use Rattle.crossing.specs.Factors.{factors_in, loads_of}
use Rattle.four_pads.specs.declared.FourPads.{FourPads}
use Rattle.four_pads.specs.Profile.{Solution, refused_with, profile_of}
use Rattle.four_pads_file.specs.FileProfile.{with_loads, general_path_in, four_pads_in}

-- ---- outcomes

with_loads_lem : (f : Packed) (x : Outcome Column) → and_then (with_loads f x) (λ s. done s.loads) ≡ x
with_loads_lem f (done x) = refl
with_loads_lem f (refused k) = refl

loads_only : (solve : Packed → Outcome Column) (o : Outcome Packed)
    → and_then (and_then o (λ f. with_loads f (solve f))) (λ s. done s.loads) ≡ and_then o solve
loads_only solve (done f) = with_loads_lem f (solve f)
loads_only solve (refused k) = refl

number_held : (o : Outcome Solution) → (profile_of o).number ≡ number_of (and_then o (λ s. done s.loads))
unfolding profile_of
number_held (done s) = refl
number_held (refused k) = refl

module _ (bytes : List ℕ) where
  -- THEOREM. A file with a good head and another size is refused with 1.
  pub another_size : headed bytes ≡ true → (pads_of bytes ≡ 4 → ⊥) → four_pads_in bytes ≡ refused_with 1
  unfolding four_pads_in profile_of tested first_holding
  another_size h ne = rw (h, ne_eqb (pads_of bytes) 4 ne)

  general_loads : and_then (general_path_in bytes) (λ s. done s.loads) ≡ loads_of bytes
  unfolding general_path_in loads_of
  general_loads = loads_only _ (factors_in bytes)

  own_size : headed bytes ≡ true → pads_of bytes ≡ 4 → four_pads_in bytes ≡ profile_of (general_path_in bytes)
  unfolding four_pads_in tested first_holding
  own_size h e = rw (h, eq-eqb (pads_of bytes) 4 e)

  no_head : headed bytes ≡ false → (four_pads_in bytes).number ≡ number_of (loads_of bytes)
  unfolding four_pads_in profile_of loads_of factors_in file_refusal file_tests tested first_holding
  no_head h = rw h

  -- THEOREM. On a file of four pads, and on one without a good head, the number is the program's.
  pub program_number : (headed bytes ≡ true → pads_of bytes ≡ 4) → (four_pads_in bytes).number ≡ number_of (loads_of bytes)
  program_number own =
      test_cases (headed bytes)
      (λ h. ap (λ (p : FourPads). p.number) (own_size h (own h)) ∙ number_held (general_path_in bytes) ∙ ap number_of general_loads) no_head

  -- THEOREM. On a file of four pads whose loads the program finds, the profile holds the factors and swaps of its matrix, and these loads.
  pub program_loads : headed bytes ≡ true → pads_of bytes ≡ 4 → (f : Packed) (x : Column) → factors_in bytes ≡ done f → loads_of bytes ≡ done x
      → four_pads_in bytes ≡ record { number = 0; factors = f.factors; pairs = f.told.pairs; swaps = take 8 f.swaps; loads = x }
  unfolding general_path_in loads_of profile_of
  program_loads h e f x df dx =
      let solve : Packed → Outcome Column = λ f. solution_by false f (readings_of (pads_of bytes) bytes) in
      let solved : solve f ≡ done x = ap (λ (o : Outcome Packed). and_then o solve) (sym df) ∙ dx in
      own_size h e ∙ rw (df, solved) refl
