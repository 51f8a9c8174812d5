-- Document 01, "Ranking and program": "pad numbers from 1, greatest magnitude first, equal magnitudes by lower number"; and document 02, request 9: which pads
-- are listed. One meaning, over any choice of pads.
use Rattle.std.specs.Prelude.{◌≡◌, Bool, true, not, cond, ◌&&◌, ◌||◌, List, [], ◌∷◌, ◌++◌, ℕ, zero, suc, ◌+◌, ◌-◌, ◌≤◌, ◌<◌, ltb, leb, eqb, length, get_or}
use Rattle.std.specs.Prelude.{replicate, Float}
use Rattle.std.specs.Float.Ieee.{lt}
use Rattle.numbers.specs.Numbers.{magnitude, is_zero}
use Rattle.numbers.specs.Column.{Column, entry}
use Rattle.finite.specs.Finite.{all_finite}
use Rattle.refusals.specs.Outcome.{done, first_holding, tested, Call, leaving}
use Rattle.refusals.specs.Refusals.{outside}

-- p is the number of one of n pads
abbrev pub IsPad : ℕ → ℕ → Type 0
IsPad n p = (1 ≤ p) × (p ≤ n)

-- the load of pad p
abbrev pub load_of : Column → ℕ → Float
load_of loads p = entry loads (p - 1)

-- pad p comes before pad q
unfoldable pub ahead : Column → ℕ → ℕ → Bool
ahead loads p q =
    let x = magnitude (load_of loads p) in
    let y = magnitude (load_of loads q) in
    lt y x || not (lt x y) && ltb p q

-- ---- which pads are listed

-- a choice of pads says of each number whether it is listed
abbrev pub Choice : Type 0
Choice = ℕ → Bool

-- "only loads that are not zero", of either sign
abbrev pub loaded : Column → Choice
loaded loads p = not (is_zero (load_of loads p))

-- "all pads"
abbrev pub every_pad : Choice
every_pad p = true

-- ---- what a ranking is

-- how often p stands in the list
unfoldable pub occurrences : ℕ → List ℕ → ℕ
occurrences p [] = 0
occurrences p (q ∷ qs) = cond (eqb p q) 1 0 + occurrences p qs

-- each chosen one of the pads 1 to n once and nothing else, any two of them in order: at most one list is so (`only_ranking`)
pub record Ranked (choice : Choice) (loads : Column) (n : ℕ) (ranks : List ℕ) : Type 0 where
  pub each_once : (p : ℕ) → occurrences p ranks ≡ cond (leb 1 p && leb p n && choice p) 1 0
  pub in_order : (i j : ℕ) → i < j → j < length ranks → ahead loads (get_or ranks i 0) (get_or ranks j 0) ≡ true

-- ---- how it is made

-- pad p put among ranked pads: at each place the pad that is ahead stays, and the other is carried on
unfoldable pub insert_pad : Column → ℕ → List ℕ → List ℕ
insert_pad loads p [] = p ∷ []
insert_pad loads p (q ∷ qs) = cond (ahead loads p q) (p ∷ insert_pad loads q qs) (q ∷ insert_pad loads p qs)

-- the pads of a list one after the other, the last of the list first
unfoldable pub ranked : Column → List ℕ → List ℕ
ranked loads [] = []
ranked loads (p ∷ ps) = insert_pad loads p (ranked loads ps)

-- all pads, n first
unfoldable pub pads_to : ℕ → List ℕ
pads_to zero = []
pads_to (suc n) = suc n ∷ pads_to n

-- those of a list that are chosen
unfoldable pub chosen : Choice → List ℕ → List ℕ
chosen choice [] = []
chosen choice (p ∷ ps) = cond (choice p) (p ∷ chosen choice ps) (chosen choice ps)

-- the chosen ones of n pads, in their order
unfoldable pub listing : Choice → Column → ℕ → List ℕ
listing choice loads n = ranked loads (chosen choice (pads_to n))

-- ---- the call

-- the refusal before the work, 0 for none: n loads, and the slice for the ranks
unfoldable pub ranking_refusal : Column → ℕ → List ℕ → ℕ
ranking_refusal loads n ranks =
    first_holding
    ((1, outside 1 n)
    ∷ (3, not (eqb (length loads) n && eqb (length ranks) n))
    ∷ (5, not (all_finite loads))
    ∷ [])

-- "the slots after them are 0"
abbrev pub padded : ℕ → List ℕ → List ℕ
padded n ranks = ranks ++ replicate (n - length ranks) 0

-- what the call comes to: how many pads are listed; and what the slice for the ranks, which held `was`, then holds
unfoldable pub ranking : Choice → Column → ℕ → List ℕ → Call ℕ (List ℕ)
ranking choice loads n was =
    let ranks = listing choice loads n in
    tested (ranking_refusal loads n was) (leaving was) (record { answer = done (length ranks); left = padded n ranks })
