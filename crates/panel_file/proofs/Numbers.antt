-- The numbers of a file as the loops over them meet them: one turn and the end; and those that are finite. Assumes nothing.
use mathlib.Core.Path.{◌≡◌, sym, ap, ◌∙◌}
use mathlib.Core.Bool.{Bool, true, ◌&&◌}
use mathlib.Core.List.{List}
use Prim.Native.Nat.{ℕ, ◌+◌, ◌*◌, ◌≤◌, ◌<◌}
use lib.ListN.{drop}
use lib.Ieee.{nan, binary64, of_bits}
use lib.Ieee.Scale.{finite}
use Rattle.numbers.specs.Each.{list_of}
use Rattle.numbers.specs.Column.{Column}
use Rattle.finite.specs.Finite.{all_finite}
use Rattle.numbers.proofs.Each.{length_list, list_at}
use Rattle.finite.proofs.Finite.{finite_entry, finite_next, finite_end}
use Rattle.panel_file.specs.File.{bits_at, number_at}

module _ (bytes : List ℕ) (count : ℕ) where
  abbrev all : Column
  all = list_of count (number_at bytes)

  -- one turn of the test, by its outcome at number k
  pub test_next : (k bits : ℕ) (t b : Bool) → k < count → bits ≡ bits_at bytes (6 + 8 * k) → t ≡ finite (of_bits binary64 bits) → t ≡ b
      → all_finite (drop k all) ≡ (b && all_finite (drop (k + 1) all))
  unfolding number_at
  test_next k bits t b h e d r =
      finite_next all k (rw length_list h) b (ap finite (list_at count (number_at bytes) k nan h ∙ ap (of_bits binary64) (sym e)) ∙ sym d ∙ r)

  pub test_end : (k : ℕ) → count ≤ k → all_finite (drop k all) ≡ true
  test_end k h = finite_end all k (rw length_list h)

  -- of finite numbers each is finite
  pub number_finite : all_finite all ≡ true → (k : ℕ) → k < count → finite (number_at bytes k) ≡ true
  number_finite f k h = rw (list_at count (number_at bytes) k nan h) at (finite_entry all k f (rw length_list h))
