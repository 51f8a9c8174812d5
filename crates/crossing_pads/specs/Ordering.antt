-- The whole answer for a panel file, on every input. Document 01, "Ranking and program": "then factoring's 7, then the solve's 6, then its 7"; else the pads
-- in rank order and their loads.
use Rattle.std.specs.Prelude.{List, ◌++◌, ℕ, drop, Result, Ok, Err}
use Rattle.numbers.specs.Column.{Column}
use Rattle.refusals.specs.declared.Refusal.{Refusal}
use Rattle.refusals.specs.Outcome.{Outcome, done, refused, number, and_then, Call}
use Rattle.ranking.specs.Ranking.{ranked, pads_to}
use Rattle.panel_file.specs.File.{pads_of}
use Rattle.crossing.specs.Factors.{toss_ups_in, loads_of, fronted}
use Rattle.crossing_pads.specs.declared.Order.{Order}

-- the n pads in the order of their loads; refused, all as it was. What lies past them stays.
unfoldable pub ranks_left : ℕ → Outcome Column → List ℕ → List ℕ
ranks_left n (done x) was = ranked x (pads_to n) ++ drop n was
ranks_left n (refused number) was = was

-- what the two slices of 64 hold
pub record Ranks : Type 0 where
  pub ranks : List ℕ
  pub loads : Column

-- the call: the number of pads and of toss-ups, their ranks, and their loads in pad order
unfoldable pub ordering : List ℕ → List ℕ → Column → Call (ℕ × ℕ) Ranks
ordering bytes ranks loads =
    let n = pads_of bytes in
    let x = loads_of bytes in
    record { answer = and_then x (λ _. done (n, toss_ups_in bytes)); left = record { ranks = ranks_left n x ranks; loads = fronted n x loads } }

-- what each case of the answer stands for
abbrev pub pads_ordered : Result Order Refusal → Outcome (ℕ × ℕ)
pads_ordered (Ok o) = done (o.pads, o.toss_ups)
pads_ordered (Err refusal) = refused (number refusal)
