-- What the writer's loops leave alone, for their own contracts.
use Rattle.std.specs.Prelude.{◌≡◌, List, ℕ, length, take}

-- bytes s that stand where others were: as many, and the same before a place
abbrev pub KeepsBefore : ℕ → List ℕ → List ℕ → Type 0
KeepsBefore at was s = (length s ≡ length was) × (take at s ≡ take at was)
