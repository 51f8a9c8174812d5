-- A season is the counts of the files handed over, up to 4,000, in whatever order; accepted and refused add to the whole, and the bands to the accepted. By one
-- file after the other; by the permutation. Assumes nothing.
use Rattle.std.proofs.Common.{◌≡◌, ℕ, zero, suc, ◌+◌, ◌-◌, ◌^◌, ◌<◌, ◌≤◌, Bool, false, eqb, List, [], ◌∷◌, ◌++◌, length, take, sym, refl, ap, ◌∙◌}
use Rattle.std.proofs.Common.{append-nil, zero-add, arith, take_all, eq-eqb, ne_eqb, le-leb}
use mathlib.Core.List.Permᴰ
use mathlib.Core.List.{Permᴰ}
use borrow.Author.Tests.{lt-leb}
use Rattle.numbers.specs.Each.{list_of}
use Rattle.refusals.specs.Outcome.{Outcome, done, refused, first_holding, tested, leaving}
use Rattle.season.specs.declared.Season.{Season}
use Rattle.season.specs.Telling.{Share, telling}
use Rattle.season.specs.Season.{
  how_many,
  total,
  accepts,
  refuses,
  is_in,
  pads_in,
  File,
  season_of,
  plus,
  one_more_at,
  counted,
  handing,
  handed_over,
  get_at,
  counts_of,
  season_from,
}
use Rattle.season.proofs.Rows.{one, row_same, small, Alone, one_more, row_sum, sum_added, sum_none, sum_one, counts_back}
use Rattle.season.proofs.Counts.{total_order, count_order, length_order, total_most, count_most}
use Rattle.season.proofs.Telling.{telling_among, solved_file, share_known}

-- ---- THEOREM. The counts of a list of files are the same in any order of it.
pub any_order : {fs gs : List File} → Permᴰ fs gs → season_of fs ≡ season_of gs
unfolding season_of
any_order {fs} {gs} p =
    λ i.
    record {
      files = length_order p i;
      accepted = count_order (λ f. accepts (telling f)) p i;
      refused = row_same 9 (λ k. how_many (λ f. refuses (suc k) (telling f)) fs) (λ k. how_many (λ f. refuses (suc k) (telling f)) gs)
          (λ k. count_order (λ f. refuses (suc k) (telling f)) p) i;
      pads = total_order (λ f. pads_in (telling f)) p i;
      bands = row_same 5 (λ b. how_many (λ f. is_in b (telling f)) fs) (λ b. how_many (λ f. is_in b (telling f)) gs)
          (λ b. count_order (λ f. is_in b (telling f)) p) i;
    }

-- ---- one file more

-- what is known of what a file tells
abbrev Fair : Outcome Share → Type 0
Fair (done s) = (s.pads ≤ 64) × (s.band < 5)
Fair (refused k) = (1 ≤ k) × (k ≤ 9)

told_fair : (file : File) → Fair (telling file)
told_fair file = go (telling file) refl
  where
    go : (o : Outcome Share) → telling file ≡ o → Fair o
    go (done s) e = share_known file s (solved_file file s e)
    go (refused k) e = telling_among file k e

-- the place of a refusal's number, and of a band
under : (k : ℕ) → Alone (λ j. eqb (suc k) (suc j)) k
under k = record { here = eq-eqb (suc k) (suc k) refl; other = λ j d. ne_eqb (suc k) (suc j) (λ e. d (omega (arith, e))) }

within : (b : ℕ) → Alone (λ j. eqb b j) b
within b = record { here = eq-eqb b b refl; other = λ j d. ne_eqb b j (λ e. d (sym e)) }

few_pads : (o : Outcome Share) → Fair o → pads_in o ≤ 64
unfolding pads_in
few_pads (done s) h = h.0
few_pads (refused k) h = omega arith

module _ (files : List File) (few : length files < 4000) where
  room : (test : File → Bool) → how_many test files + 1 < 2 ^ 64
  room test = omega (arith, count_most test files)

  pads_room : (k : ℕ) → k ≤ 64 → total (λ f. pads_in (telling f)) files + k < 2 ^ 64
  pads_room k h =
      omega (arith, total_most (λ f. pads_in (telling f)) 64 files (λ f. few_pads (telling f) (told_fair f)))

  one_file : plus (length files) 1 ≡ suc (length files)
  one_file = small (length files) 1 (omega arith) ∙ omega arith

  -- the counts with one file more that tells o
  abbrev with_one : Outcome Share → Season
  with_one o =
      record {
        files = suc (length files);
        accepted = one (accepts o) + how_many (λ f. accepts (telling f)) files;
        refused = list_of 9 (λ k. one (refuses (suc k) o) + how_many (λ f. refuses (suc k) (telling f)) files);
        pads = pads_in o + total (λ f. pads_in (telling f)) files;
        bands = list_of 5 (λ b. one (is_in b o) + how_many (λ f. is_in b (telling f)) files);
      }

  one_counted : (o : Outcome Share) → Fair o → counted (season_of files) o ≡ with_one o
  unfolding counted season_of accepts refuses is_in pads_in
  one_counted (done s) fair =
      λ i.
      record {
        files = one_file i;
        accepted = small (how_many (λ f. accepts (telling f)) files) 1 (room (λ f. accepts (telling f))) i;
        refused = row_same 9 (λ k. how_many (λ f. refuses (suc k) (telling f)) files) (λ k. 0 + how_many (λ f. refuses (suc k) (telling f)) files)
            (λ k. sym (zero-add _)) i;
        pads = small (total (λ f. pads_in (telling f)) files) s.pads (pads_room s.pads fair.0) i;
        bands = one_more 5 (λ b. how_many (λ f. is_in b (telling f)) files) (λ b. eqb s.band b) s.band (within s.band) fair.1
            (room (λ f. is_in s.band (telling f))) i;
      }
  one_counted (refused zero) fair = absurd (omega (arith, fair.0))
  one_counted (refused (suc k)) fair =
      let g : ℕ → ℕ = λ j. how_many (λ f. refuses (suc j) (telling f)) files in
      let place : suc k - 1 ≡ k = omega arith in
      λ i.
      record {
        files = one_file i;
        accepted = sym (zero-add (how_many (λ f. accepts (telling f)) files)) i;
        refused = (ap (λ (j : ℕ). one_more_at j (list_of 9 g)) place
            ∙ one_more 9 g (λ j. eqb (suc k) (suc j)) k (under k) (omega (arith, fair.1)) (room (λ f. refuses (suc k) (telling f)))) i;
        pads = sym (zero-add (total (λ f. pads_in (telling f)) files)) i;
        bands = row_same 5 (λ b. how_many (λ f. is_in b (telling f)) files) (λ b. 0 + how_many (λ f. is_in b (telling f)) files) (λ b. sym (zero-add _)) i;
      }

  -- THEOREM. The season of a list with one file more counted is the season of the longer list; nothing wraps.
  pub counted_one : (file : File) → counted (season_of files) (telling file) ≡ season_of (file ∷ files)
  unfolding season_of how_many total
  counted_one file = one_counted (telling file) (told_fair file)

-- ---- the files of a list handed over

-- a season that is full stays as it is; else the file is counted
handed_full : (s : Season) (file : File) → 4000 ≤ s.files → (handing s file).left ≡ s
unfolding handing tested first_holding
handed_full s file h = rw (le-leb 4000 s.files h)

handed_more : (s : Season) (file : File) → s.files < 4000 → (handing s file).left ≡ counted s (telling file)
unfolding handing tested first_holding
handed_more s file h = rw (lt-leb 4000 s.files h)

take_none : (k : ℕ) → take {A = File} k [] ≡ []
take_none zero = refl
take_none (suc k) = refl

-- k more files fit behind those that were handed over
handed_behind : (k : ℕ) (before files : List File) → length before + k ≡ 4000
    → handed_over (season_of before) files ≡ season_of (take k files ++ before)
unfolding handed_over season_of
handed_behind k before [] e = ap (λ (l : List File). season_of (l ++ before)) (sym (take_none k))
handed_behind zero before (file ∷ files) e =
    ap (λ (s : Season). handed_over s files) (handed_full (season_of before) file (omega (arith, e))) ∙ handed_behind zero before files e
handed_behind (suc k) before (file ∷ files) e =
    ap (λ (s : Season). handed_over s files) (handed_more (season_of before) file (omega (arith, e)) ∙ counted_one before (omega (arith, e)) file)
    ∙ handed_behind k (file ∷ before) files (omega (arith, e)) ∙ any_order (Permᴰ.middle file (take k files) before)

-- THEOREM. When the files of a list have been handed over to a season of none, each count is the number of such files (or pads) among the first 4,000.
pub season_is : (files : List File) → handed_over (season_of []) files ≡ season_of (take 4000 files)
season_is files = handed_behind 4000 [] files refl ∙ ap season_of (append-nil (take 4000 files))

-- up to 4,000 that is all of them, in any order
pub season_whole : (files : List File) → length files ≤ 4000 → handed_over (season_of []) files ≡ season_of files
season_whole files h = season_is files ∙ ap season_of (take_all 4000 files h)

pub season_any_order : {fs gs : List File} → Permᴰ fs gs → length fs ≤ 4000 → handed_over (season_of []) fs ≡ handed_over (season_of []) gs
season_any_order {fs} {gs} p h =
    season_whole fs h ∙ any_order p ∙ sym (season_whole gs (omega (arith, h, length_order p)))

-- a file that is one too many is refused with 10, and nothing is counted
pub season_full : (s : Season) (file : File) → 4000 ≤ s.files → handing s file ≡ leaving s 10
unfolding handing tested first_holding
season_full s file h = rw (le-leb 4000 s.files h)

-- the same of the seventeen counts in a row, by which C holds a season
pub row_full : (l : List ℕ) (file : File) → length l ≡ 17 → 4000 ≤ get_at l 16 → counts_of (handing (season_from l) file).left ≡ l
unfolding season_from
row_full l file e h = ap (λ (s : Season). counts_of s) (handed_full (season_from l) file h) ∙ counts_back l e

-- ---- counts that add up

-- of one file: it is accepted, or refused under one of the nine numbers; accepted, it is in one of the five bands
whole_one : (o : Outcome Share) → Fair o → one (accepts o) + row_sum (list_of 9 (λ k. one (refuses (suc k) o))) ≡ 1
unfolding accepts refuses
whole_one (done s) fair = let e = sum_none 9 (λ k. false) (λ k. refl) in omega (arith, e)
whole_one (refused zero) fair = absurd (omega (arith, fair.0))
whole_one (refused (suc k)) fair = let e = sum_one 9 (λ j. eqb (suc k) (suc j)) k (under k) (omega (arith, fair.1)) in omega (arith, e)

banded_one : (o : Outcome Share) → Fair o → row_sum (list_of 5 (λ b. one (is_in b o))) ≡ one (accepts o)
unfolding accepts is_in
banded_one (done s) fair = sum_one 5 (λ b. eqb s.band b) s.band (within s.band) fair.1
banded_one (refused k) fair = sum_none 5 (λ b. false) (λ b. refl)

-- THEOREM. Accepted and refused add to the whole, and the bands to the accepted.
pub whole : (files : List File) → (season_of files).accepted + row_sum (season_of files).refused ≡ length files
unfolding season_of how_many
whole [] = let e = sum_none 9 (λ k. false) (λ k. refl) in omega (arith, e)
whole (f ∷ fs) =
    let e = whole fs in
    let one-more-file = whole_one (telling f) (told_fair f) in
    omega (arith, e, one-more-file, sum_added 9 (λ k. one (refuses (suc k) (telling f))) (λ k. how_many (λ f. refuses (suc k) (telling f)) fs))

pub all_banded : (files : List File) → row_sum (season_of files).bands ≡ (season_of files).accepted
unfolding season_of how_many
all_banded [] = sum_none 5 (λ b. false) (λ b. refl)
all_banded (f ∷ fs) =
    let e = all_banded fs in
    omega (arith, e, banded_one (telling f) (told_fair f), sum_added 5 (λ b. one (is_in b (telling f))) (λ b. how_many (λ f. is_in b (telling f)) fs))
