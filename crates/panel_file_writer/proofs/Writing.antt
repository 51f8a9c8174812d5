-- The writer as its tests go: what a crossing that is not refused is known by, and the outcome. By the tests in their order. Assumes nothing.
use mathlib.Core.Path.{◌≡◌, refl, sym, ap, ◌∙◌, subst}
use mathlib.Core.Bool.{Bool, true, not, ◌&&◌}
use mathlib.Core.List.{List, [], ◌∷◌, ◌++◌}
use Prim.Native.Nat.{ℕ, ◌*◌, ◌≤◌}
use borrow.Author.Rules.{rules}
use borrow.Author.Tests.{eqb-true, eq-eqb, leb-true, le-leb, not-false}
use lib.Dec.{eqb, leb}
use lib.ListN.{length, drop}
use lib.Seq.{take_at, drop_at}
use Rattle.numbers.specs.Column.{Column}
use Rattle.finite.specs.Finite.{all_finite}
use Rattle.numbers.proofs.Choice.{and_first, and_second}
use Rattle.std.proofs.Common.{Result, Ok}
use Rattle.std.specs.Result.{IsErrAnd}
use Rattle.refusals.specs.declared.Refusal.{Refusal}
use Rattle.refusals.specs.Outcome.{done, refused, number, first_holding}
use Rattle.refusals.specs.Refusals.{outside}
use Rattle.refusals.proofs.Outcomes.{first_none, never_0, handed_on, tested_none, tested_some}
use Rattle.refusals.proofs.Cases.{refused_before, passed_before}
use Rattle.refusals.proofs.Tests.{Inside, inside, not_outside}
use Rattle.panel_file.specs.File.{file_length, IsFile}
use Rattle.panel_file.proofs.Reading.{square}
use Rattle.panel_file_writer.specs.Writing.{lengths_fit, writing_tests, writing_refusal, written, Writing}

-- a size within the limits, and its square
pub small : (n : ℕ) → Inside 1 n → (n ≤ 64) × (n * n ≤ 4096)
small n i = (i.at_most, square n 64 i.at_most)

-- ---- what holds where nothing is refused
pub record Fit (n : ℕ) (matrix readings : Column) (room : ℕ) : Type 0 where
  pub size : Inside 1 n
  pub matrix_length : length matrix ≡ n * n
  pub readings_length : length readings ≡ n
  pub fits : file_length n ≤ room
  pub matrix_finite : all_finite matrix ≡ true
  pub readings_finite : all_finite readings ≡ true

pub fit : (n : ℕ) (m r : Column) (room : ℕ) → writing_refusal n m r room ≡ 0 → Fit n m r room
unfolding writing_refusal
fit n m r room e =
    let none = first_none (writing_tests n m r room) (search rules) e in
    let a = eqb (length m) (n * n) in
    let b = eqb (length r) n in
    let c = leb (file_length n) room in
    let lengths : (a && b && c) ≡ true = not-false _ none.1.0 in
    let both : (a && b) ≡ true = and_first (a && b) c lengths in
    let finite : (all_finite m && all_finite r) ≡ true = not-false _ none.1.1.0 in
    record {
      size = inside 1 n none.0;
      matrix_length = eqb-true _ _ (and_first a b both);
      readings_length = eqb-true _ _ (and_second a b both);
      fits = leb-true _ _ (and_second (a && b) c lengths);
      matrix_finite = and_first (all_finite m) (all_finite r) finite;
      readings_finite = and_second (all_finite m) (all_finite r) finite;
    }

pub not_refused : (n : ℕ) (m r : Column) (room : ℕ) → Fit n m r room → writing_refusal n m r room ≡ 0
unfolding writing_refusal first_holding
not_refused n m r room f =
    rw (
      not_outside 1 n f.size.at_least f.size.at_most,
      eq-eqb (length m) (n * n) f.matrix_length,
      eq-eqb (length r) n f.readings_length,
      le-leb (file_length n) room f.fits,
      f.matrix_finite,
      f.readings_finite,
    )

-- a crossing that is not refused is small
pub accepted_small : (n : ℕ) (m r : Column) (room : ℕ) → 0 ≡ writing_refusal n m r room → (n ≤ 64) × (n * n ≤ 4096)
accepted_small n m r room e = small n (fit n m r room (sym e)).size

-- ---- the size's test stands first, and the others behind it
module _ (n : ℕ) (m r : Column) (room : ℕ) where
  abbrev pub size_tests : List (ℕ × Bool)
  size_tests = (1, outside 1 n) ∷ []

  abbrev pub late_tests : List (ℕ × Bool)
  late_tests = (3, not (lengths_fit n m r room)) ∷ (5, not (all_finite m && all_finite r)) ∷ []

  pub size_refused : (k : Refusal) → number k ≡ first_holding size_tests → number k ≡ writing_refusal n m r room
  unfolding writing_refusal
  size_refused k = refused_before size_tests late_tests k

  pub size_passed : 0 ≡ first_holding size_tests → first_holding late_tests ≡ writing_refusal n m r room
  unfolding writing_refusal
  size_passed = passed_before size_tests late_tests (search rules)

-- a size that was tested, and its square
pub size_small : (n : ℕ) (t : Bool) → t ≡ outside 1 n → 0 ≡ first_holding ((1, t) ∷ []) → (n ≤ 64) × (n * n ≤ 4096)
size_small n t is e = small n (inside 1 n (sym is ∙ (first_none ((1, t) ∷ []) (search rules) (sym e)).0))

-- ---- the two ends of the call
module _ (n : ℕ) (m r : Column) (out : List ℕ) where
  pub write_refused : (k : Refusal) (answer : Result ℕ Refusal) → number k ≡ writing_refusal n m r (length out) → IsErrAnd answer (λ e. e ≡ k)
      → Writing n m r out (written answer out)
  write_refused k answer e h =
      rw (handed_on k answer h) (record {
        answers = ap refused e ∙ sym (tested_some (writing_refusal n m r (length out)) refused (done (file_length n)) (λ z. never_0 k (e ∙ z)));
        as_it_was = λ _. refl;
        file = λ z. absurd (never_0 k z);
        rest = λ z. absurd (never_0 k z);
      })

  pub write_done : (file : List ℕ) → writing_refusal n m r (length out) ≡ 0 → IsFile file n m r
      → Writing n m r out (written (Ok (file_length n)) (file ++ drop (file_length n) out))
  write_done file e p =
      let l : length file ≡ file_length n = p.whole in
      record {
        answers = sym (tested_none (writing_refusal n m r (length out)) refused (done (file_length n)) e);
        as_it_was = λ z. absurd (z refl);
        file = λ _. subst (λ (s : List ℕ). IsFile s n m r) (sym (take_at file (drop (file_length n) out) (file_length n) l)) p;
        rest = λ _. drop_at file (drop (file_length n) out) (file_length n) l;
      }
