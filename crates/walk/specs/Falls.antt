-- A turn as the code takes it: cells opened downwards as far as they go, then one closed. Assumes nothing.
use Rattle.std.specs.Prelude.{◌≡◌, List, ◌∷◌, ℕ, zero, suc, ◌+◌, ◌*◌, ◌≤◌, ◌<◌, length}
use Rattle.plan.specs.Limits.{most_cells}
use Rattle.joining.specs.Joining.{Memory}
use Rattle.links.specs.Links.{link}
use Rattle.walk.specs.Machine.{State}

-- the stack when n, its first child and so on down are opened, d cells at most
unfoldable pub fallen : List ℕ → ℕ → ℕ → List ℕ → List ℕ
fallen ls zero n cs = cs
fallen ls (suc d) zero cs = cs
fallen ls (suc d) (suc n) cs = fallen ls d (link ls (suc n) 0) (suc n ∷ cs)

-- there is room for them
abbrev pub Falls : List ℕ → (d k n : ℕ) → Type 0
Falls ls zero k n = n ≡ 0
Falls ls (suc d) k n = 0 < n → (k < 32) × (4 * n + 4 ≤ length ls) × (n < most_cells) × Falls ls d (suc k) (link ls n 0)

-- the state in which the latest of them is closed
abbrev pub down : List ℕ → List ℕ → ℕ → Memory → State
down ls cs n m = record { stack = fallen ls 32 n cs; next = 0; memory = m }
