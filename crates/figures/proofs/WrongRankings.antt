-- The ranking, of those pads whose load is not zero and of all: one outcome, and no program that always refuses or leaves its slice as it was. Beside these the
-- errors that request 9 invites, each shut out at three loads of which one is not zero. Assumes nothing.
use mathlib.Core.Path.{◌≡◌, refl, sym, ap, ◌∙◌}
use mathlib.Core.Bool.{Bool, true, false, not}
use mathlib.Core.List.{List, [], ◌∷◌, ◌++◌}
use Prim.Native.Nat.{ℕ, zero, suc}
use native.Mathlib.Omega.{arith}
use lib.ListN.{length, get_or, drop}
use lib.IntN.{pos}
use lib.Ieee.{Float, nan, inf, fin}
use Rattle.numbers.specs.Column.{Column}
use Rattle.refusals.specs.Outcome.{done, Call, tested, leaving}
use Rattle.refusals.proofs.Cases.{done_same}
use Rattle.refusals.proofs.Strength.{ShutsOut, shut_out, BothShutOut, both}
use Rattle.ranking.specs.Ranking.{load_of, Choice, loaded, every_pad, listing, ranking_refusal, ranking}
use Rattle.ranking.proofs.Figures.{Ranks, one_three_three, one_three_three_all}
use Rattle.from_factors.proofs.Figures.{n0, n1}

-- a size, so many loads, and what the slots held
abbrev Loads : Type 0
Loads = ℕ × (Column × List ℕ)

abbrev listed_by : (Column → Choice) → Loads → Call ℕ (List ℕ)
listed_by choice x = ranking (choice x.1.0) x.1.0 x.0 x.1.1

abbrev short : Loads → Call ℕ (List ℕ)
short = listed_by loaded

abbrev long : Loads → Call ℕ (List ℕ)
long = listed_by (λ _. every_pad)

-- ---- the same always; and the slice left as it was

-- loads 1, -3, 3
abbrev three : Loads
three = (3, (n1 ∷ fin true 3 (pos 0) ∷ fin false 3 (pos 0) ∷ [], 0 ∷ 0 ∷ 0 ∷ []))

pub rank : BothShutOut short (λ x. x.1.1)
rank = both short (λ x. x.1.1) three one_three_three (λ d. let z : ◌≡◌ {A = ℕ} 0 2 = cc in omega arith)

pub rank_all : BothShutOut long (λ x. x.1.1)
rank_all = both long (λ x. x.1.1) three one_three_three_all (λ d. let z : ◌≡◌ {A = ℕ} 0 2 = cc in omega arith)

-- ---- idle pads

-- loads +0.0, 1, -0.0, in slots that held 7
abbrev idle : Loads
idle = (3, (n0 ∷ n1 ∷ fin true 0 (pos 0) ∷ [], 7 ∷ 7 ∷ 7 ∷ []))

pub one_loaded : short idle ≡ record { answer = done 1; left = 2 ∷ 0 ∷ 0 ∷ [] }
unfolding Ranks
one_loaded = refl

pub all_of_them : long idle ≡ record { answer = done 3; left = 2 ∷ 1 ∷ 3 ∷ [] }
unfolding Ranks
all_of_them = refl

-- a program that leaves another number in slot i, or answers another count, is shut out there
module _ (right wrong : Loads → Call ℕ (List ℕ)) where
  by_slot : (i : ℕ) → (get_or (right idle).left i 0 ≡ get_or (wrong idle).left i 0 → ⊥) → ShutsOut right wrong
  by_slot i n = shut_out right wrong idle (λ e. n (ap (λ (o : Call ℕ (List ℕ)). get_or o.left i 0) e))

  by_count : (a b : ℕ) → (right idle).answer ≡ done a → (wrong idle).answer ≡ done b → (a ≡ b → ⊥) → ShutsOut right wrong
  by_count a b r w n = shut_out right wrong idle (λ e. n (done_same a b (sym r ∙ ap (λ (o : Call ℕ (List ℕ)). o.answer) e ∙ w)))

-- idle pads at the end of the list instead of left off
abbrev idle_last : Loads → Call ℕ (List ℕ)
idle_last x = record { answer = (short x).answer; left = (long x).left }

pub not_idle_last : ShutsOut short idle_last
unfolding Ranks
not_idle_last = by_slot short idle_last 1 (λ d. omega (arith, d))

-- the count of all
abbrev count_of_all : Loads → Call ℕ (List ℕ)
count_of_all x = record { answer = (long x).answer; left = (short x).left }

pub not_count_of_all : ShutsOut short count_of_all
unfolding Ranks
not_count_of_all = by_count short count_of_all 1 3 refl refl (λ d. omega (arith, d))

-- the slots behind as they were
abbrev slots_kept : Loads → Call ℕ (List ℕ)
slots_kept (n, (loads, was)) =
    let ranks = listing (loaded loads) loads n in
    tested (ranking_refusal loads n was) (leaving was) (record { answer = done (length ranks); left = ranks ++ drop (length ranks) was })

pub not_slots_kept : ShutsOut short slots_kept
unfolding Ranks
not_slots_kept = by_slot short slots_kept 1 (λ d. omega (arith, d))

-- -0.0 listed: left off by the bits of +0.0 alone
abbrev plus_zero : Float → Bool
plus_zero nan = false
plus_zero (inf s) = false
plus_zero (fin true m e) = false
plus_zero (fin false zero e) = true
plus_zero (fin false (suc m) e) = false

abbrev minus_zero_listed : Loads → Call ℕ (List ℕ)
minus_zero_listed = listed_by (λ loads p. not (plus_zero (load_of loads p)))

pub not_minus_zero_listed : ShutsOut short minus_zero_listed
unfolding Ranks
not_minus_zero_listed = by_slot short minus_zero_listed 1 (λ d. omega (arith, d))

-- and where all are asked for: idle pads left off
pub not_left_off : ShutsOut long short
unfolding Ranks
not_left_off = by_slot long short 1 (λ d. omega (arith, d))
