-- Document 02, request 13: the counts of a season over the files handed over, and the call that hands over one more.
use Rattle.std.specs.Prelude.{ℕ, suc, ◌+◌, ◌-◌, ◌%◌, ◌^◌, Bool, true, false, cond, List, [], ◌∷◌, ◌++◌, length, ◌==◌, nat_le, slice_index, slice_set}
use Rattle.std.specs.Prelude.{Result, Ok, Err}
use Rattle.numbers.specs.Each.{list_of}
use Rattle.refusals.specs.Outcome.{Outcome, done, refused, number, first_holding, tested, Call, leaving}
use Rattle.season.specs.declared.Season.{Season}
use Rattle.refusals.specs.declared.Refused.{Refused}
use Rattle.season.specs.Telling.{Share, telling}

-- ---- the counts of a list of files

-- how many of a list pass a test, and the sum of a number of each
unfoldable pub how_many : {F : Type 0} → (F → Bool) → List F → ℕ
how_many test [] = 0
how_many test (f ∷ fs) = cond (test f) 1 0 + how_many test fs

unfoldable pub total : {F : Type 0} → (F → ℕ) → List F → ℕ
total number [] = 0
total number (f ∷ fs) = number f + total number fs

-- what is counted of a file: whether it is accepted, refused under a number, or accepted and in a band; the pads that it lists
unfoldable pub accepts : Outcome Share → Bool
accepts (done s) = true
accepts (refused number) = false

unfoldable pub refuses : ℕ → Outcome Share → Bool
refuses k (done s) = false
refuses k (refused number) = number == k

unfoldable pub is_in : ℕ → Outcome Share → Bool
is_in band (done s) = s.band == band
is_in band (refused number) = false

unfoldable pub pads_in : Outcome Share → ℕ
pads_in (done s) = s.pads
pads_in (refused number) = 0

-- a file's bytes
abbrev pub File : Type 0
File = List ℕ

-- "the files accepted, those refused under each number from 1 to 9, the pads listed without idle ones, and the crossings" of each band
unfoldable pub season_of : List File → Season
season_of files =
    record {
      files = length files;
      accepted = how_many (λ f. accepts (telling f)) files;
      refused = list_of 9 (λ k. how_many (λ f. refuses (suc k) (telling f)) files);
      pads = total (λ f. pads_in (telling f)) files;
      bands = list_of 5 (λ b. how_many (λ f. is_in b (telling f)) files);
    }

-- ---- one file more

-- a sum of the machine's numbers; in a season that a list of files gave it does not wrap (`counted_one`)
abbrev pub plus : ℕ → ℕ → ℕ
plus a b = (a + b) % 2 ^ 64

-- one more at place i, where there is such a place
unfoldable pub one_more_at : ℕ → List ℕ → List ℕ
one_more_at i l = slice_set l i (plus (slice_index l i) 1)

unfoldable pub counted : Season → Outcome Share → Season
counted s (done share) =
    record {
      files = plus s.files 1;
      accepted = plus s.accepted 1;
      refused = s.refused;
      pads = plus s.pads share.pads;
      bands = one_more_at share.band s.bands;
    }
counted s (refused number) =
    record {
      files = plus s.files 1;
      accepted = s.accepted;
      refused = one_more_at (number - 1) s.refused;
      pads = s.pads;
      bands = s.bands;
    }

-- the call: "reads up to 4,000 panel files"; "new 10, the season is full, counts unchanged"
unfoldable pub handing : Season → File → Call (Unit {0}) Season
handing s file =
    tested (first_holding ((10, nat_le 4000 s.files) ∷ [])) (leaving s) (record { answer = done tt; left = counted s (telling file) })

-- what the call's answer stands for, and the season that it holds: the new one, or else the old one
abbrev pub handed : Result Season (Refused Season) → Call (Unit {0}) Season
handed (Ok season) = record { answer = done tt; left = season }
handed (Err r) = record { answer = refused (number r.refusal); left = r.old }

-- the season when the files of a list have been handed over, the first first
unfoldable pub handed_over : Season → List File → Season
handed_over s [] = s
handed_over s (f ∷ fs) = handed_over (handing s f).left fs

-- ---- the counts in a row: "each count on a line of its own, in the order above", and the number of files behind them

-- the count at a place
abbrev pub get_at : List ℕ → ℕ → ℕ
get_at l i = slice_index l i

unfoldable pub counts_of : Season → List ℕ
counts_of s = s.accepted ∷ list_of 9 (get_at s.refused) ++ s.pads ∷ list_of 5 (get_at s.bands) ++ s.files ∷ []

unfoldable pub season_from : List ℕ → Season
season_from l =
    record {
      files = get_at l 16;
      accepted = get_at l 0;
      refused = list_of 9 (λ k. get_at l (1 + k));
      pads = get_at l 10;
      bands = list_of 5 (λ b. get_at l (11 + b));
    }
