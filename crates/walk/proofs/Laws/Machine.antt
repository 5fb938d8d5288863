-- Laws of the definitions in specs/Machine.antt. Assumes nothing.
use Rattle.std.specs.Prelude.{◌≡◌, refl, List, [], ◌∷◌, ℕ, zero, suc, ◌*◌, ◌≤◌, ◌<◌, length}
use Rattle.std.proofs.Common.{◌∙◌, ap, arith}
use Rattle.plan.specs.Limits.{most_cells}
use Rattle.joining.specs.Joining.{Memory}
use Rattle.links.specs.Links.{link}
use Rattle.walk.specs.Machine.{Chart, wide, deep, State, closed, root_closed, step, Turning}

-- ---- one turn, by cases
pub step_open : (b : Chart) (cs : List ℕ) (s : ℕ) (m : Memory) → 0 < s → step b (record { stack = cs; next = s; memory = m }) ≡ record { stack = s ∷ cs; next = link b.links s 0; memory = m }
unfolding step
step_open b cs zero m l = absurd (omega arith)
step_open b cs (suc s) m l = refl

pub step_close : (b : Chart) (c f : ℕ) (fs : List ℕ) (m : Memory)
    → step b (record { stack = c ∷ f ∷ fs; next = 0; memory = m }) ≡ record { stack = f ∷ fs; next = link b.links c 1; memory = closed b (length fs) f c m }
unfolding step
step_close b c f fs m = refl

pub step_end : (b : Chart) (c : ℕ) (m : Memory) → step b (record { stack = c ∷ []; next = 0; memory = m }) ≡ record { stack = []; next = 0; memory = root_closed m (deep b 0) (wide b 0) }
unfolding step
step_end b c m = refl

-- n safe turns lead to the end, where Q holds
abbrev pub Safe : Chart → (Memory → Type 0) → ℕ → State → Type 0
Safe b Q zero st = (length st.stack ≡ 0) × Q st.memory
Safe b Q (suc n) st = Turning b st × Safe b Q n (step b st)

-- each cell is opened and closed once
abbrev pub most_turns : ℕ
most_turns = 2 * most_cells

-- how many turns are left, of at most so many
abbrev pub counted : List ℕ → ℕ → ℕ
counted [] n = 0
counted (c ∷ cs) n = suc n

unfoldable pub turns : Chart → ℕ → State → ℕ
turns b zero st = 0
turns b (suc k) st = counted st.stack (turns b k (step b st))

counted_none : (cs : List ℕ) (n : ℕ) → length cs ≡ 0 → counted cs n ≡ 0
counted_none [] n e = refl
counted_none (c ∷ cs) n e = absurd (omega (arith, e))

counted-some : (cs : List ℕ) (n : ℕ) → 0 < length cs → counted cs n ≡ suc n
counted-some [] n l = absurd (omega (arith, l))
counted-some (c ∷ cs) n l = refl

pub turns_are : (b : Chart) (Q : Memory → Type 0) (k n : ℕ) (st : State) → Safe b Q n st → n ≤ k → turns b k st ≡ n
unfolding turns
turns_are b Q zero zero st s l = refl
turns_are b Q zero (suc n) st s l = absurd (omega arith)
turns_are b Q (suc k) zero st s l = counted_none st.stack _ s.0
turns_are b Q (suc k) (suc n) st s l = counted-some st.stack _ s.0.some ∙ ap suc (turns_are b Q k n (step b st) s.1 (omega arith))
