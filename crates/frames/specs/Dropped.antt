-- How a frame that is too long is dropped.
use Rattle.std.specs.Prelude.{List, [], ◌∷◌, ◌++◌, ℕ, replicate}
use Rattle.decoder.specs.State.{limit}
use Rattle.damage.specs.Reported.{Reported, report19}

-- byte by byte: as many silent bytes as the limit, then 19, and n silent bytes more
abbrev pub dropped : ℕ → List (List Reported)
dropped n = replicate limit [] ++ ((report19 ∷ []) ∷ replicate n [])
