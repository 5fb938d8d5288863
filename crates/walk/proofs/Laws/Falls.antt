-- A turn that opens cells downwards and then closes one: several turns of the machine. Assumes nothing.
use Rattle.std.specs.Prelude.{◌≡◌, refl, List, ◌∷◌, length, set}
use Rattle.std.proofs.Common.{◌∙◌, sym, add-one}
use Rattle.std.proofs.Math.Path.{ap}
use Prim.Native.Nat.{ℕ, zero, suc, ◌+◌, ◌-◌, ◌*◌, ◌≤◌, ◌<◌}
use native.Mathlib.Omega.{arith}
use Rattle.plan.specs.Limits.{most_cells}
use Rattle.joining.specs.Joining.{Memory, memory_of}
use Rattle.links.specs.Links.{link}
use Rattle.walk.specs.Machine.{Chart, State, step, Turning}
use Rattle.walk.proofs.Laws.Machine.{step_open, most_turns, turns}
use Rattle.walk.specs.Turns.{stack_of, state_of}
use Rattle.walk.proofs.Laws.Turns.{stack_of_push}
use Rattle.walk.proofs.Laws.Walked.{Keeps, keeps_turning, keeps_turn, keeps_less}
use Rattle.walk.specs.Opened.{run, begin, Visiting}
use Rattle.walk.proofs.Laws.Visits.{visiting}
use Rattle.walk.specs.Falls.{fallen, Falls, down}

-- ---- for the loop of descend
pub record Falling (ls : List ℕ) (k n : ℕ) (cs whole : List ℕ) : Type 0 where
  pub left : ℕ
  pub falls : Falls ls left k n
  pub same : fallen ls left n cs ≡ whole

pub falling_room : {ls : List ℕ} {k n : ℕ} {cs whole : List ℕ} → Falling ls k n cs whole → 0 < n → (k < 32) × (4 * n + 4 ≤ length ls) × (n < most_cells)
falling_room {ls} {k} {n} h l = go h.left h.falls
  where
    go : (d : ℕ) → Falls ls d k n → (k < 32) × (4 * n + 4 ≤ length ls) × (n < most_cells)
    go zero f = absurd (omega arith)
    go (suc d) f = ((f l).0, (f l).1, (f l).2)

pub falling_on : (ls : List ℕ) (k n : ℕ) (cells whole : List ℕ) {m : ℕ} → Falling ls k n (stack_of cells k) whole → 0 < n → length cells ≡ 32 → m ≡ link ls n 0 → Falling ls (k + 1) m (stack_of (set cells k n) (k + 1)) whole
unfolding fallen
falling_on ls k n cells whole h l len e = go h.left n l h.falls h.same e (stack_of_push cells k n (omega (arith, falling_room h l)))
  where
    go : (d n : ℕ) → 0 < n → Falls ls d k n → fallen ls d n (stack_of cells k) ≡ whole → {m : ℕ} → m ≡ link ls n 0 → stack_of (set cells k n) (k + 1) ≡ n ∷ stack_of cells k → Falling ls (k + 1) m (stack_of (set cells k n) (k + 1)) whole
    go zero n l f s e p = absurd (omega arith)
    go (suc d) zero l f s e p = absurd (omega arith)
    go (suc d) (suc n) l f s e p = rw (p, e, add-one) (record { left = d; falls = (f l).3; same = s })

fallen-none : (ls : List ℕ) (d : ℕ) (cs : List ℕ) → fallen ls d 0 cs ≡ cs
unfolding fallen
fallen-none ls zero cs = refl
fallen-none ls (suc d) cs = refl

-- at the end of the loop
pub falling_done : {ls : List ℕ} {k n : ℕ} {cs whole : List ℕ} → Falling ls k n cs whole → n ≡ 0 → cs ≡ whole
falling_done {ls} {k} {n} {cs} h z = sym (fallen-none ls h.left cs) ∙ ap (λ (x : ℕ). fallen ls h.left x cs) (sym z) ∙ h.same

-- ---- the cells that are opened downwards are so many steps of the machine
module _ (b : Chart) (m : Memory) where
  abbrev here : List ℕ → ℕ → State
  here cs n = record { stack = cs; next = n; memory = m }

  falls_run : (d k n : ℕ) (cs : List ℕ) → Falls b.links d k n → (o : ℕ) × ((j : ℕ) (st : State) → here cs n ≡ run b j st → here (fallen b.links d n cs) 0 ≡ run b (o + j) st)
  unfolding fallen run
  falls_run zero k zero cs f = (0, λ j st e. let z : 0 + j ≡ j = omega arith in rw z e)
  falls_run zero k (suc n) cs f = absurd (omega (arith, f))
  falls_run (suc d) k zero cs f = (0, λ j st e. let z : 0 + j ≡ j = omega arith in rw z e)
  falls_run (suc d) k (suc n) cs f =
      let (o, g) = falls_run d (suc k) (link b.links (suc n) 0) (suc n ∷ cs) (f (omega arith)).3 in
      (suc o, λ j st e. let z : suc o + j ≡ o + suc j = omega arith in rw z (g (suc j) st (sym (step_open b cs (suc n) m (omega arith)) ∙ ap (step b) e)))

-- a turn of the code: the top cell of the chain, at level k - 1, is closed
pub turn_found : (b : Chart) (cells : List ℕ) (k : ℕ) (xs ms : List ℕ) {whole xs' ms' : List ℕ} {n : ℕ} → 0 < k → stack_of cells k ≡ whole → state_of cells (k - 1) n xs' ms' ≡ step b (state_of cells (k - 1 + 1) 0 xs ms) → state_of cells (k - 1) n xs' ms' ≡ step b (here b (memory_of xs ms) whole 0)
turn_found b cells k xs ms l e h =
    let q : k - 1 + 1 ≡ k = omega arith in
    h ∙ ap (λ (j : ℕ). step b (state_of cells j 0 xs ms)) q ∙ ap (λ (cs : List ℕ). step b (here b (memory_of xs ms) cs 0)) e

-- the chain with these cells, and the chain after the turn, are those of the same walk
module _ (b : Chart) (m : Memory) {cells : List ℕ} {count next : ℕ} {xs ms : List ℕ} (f : Falls b.links 32 count next) (v : Visiting b m cells count next xs ms) where
  fell_to : (o : ℕ) × (here b (memory_of xs ms) (fallen b.links 32 next (stack_of cells count)) 0 ≡ run b o (begin b m))
  fell_to = let (o, g) = falls_run b (memory_of xs ms) 32 count next (stack_of cells count) f in (o + v.turns, g v.turns (begin b m) v.there)

  pub visiting_down : (cells' : List ℕ) (count' : ℕ) → stack_of cells' count' ≡ fallen b.links 32 next (stack_of cells count) → Visiting b m cells' count' 0 xs ms
  visiting_down cells' count' e = visiting b m cells' count' 0 xs ms fell_to.0 (ap (λ (cs : List ℕ). here b (memory_of xs ms) cs 0) e ∙ fell_to.1)

  pub visiting_turn : (cells' : List ℕ) (count' next' : ℕ) (xs' ms' : List ℕ) → state_of cells' count' next' xs' ms' ≡ step b (down b.links (stack_of cells count) next (memory_of xs ms)) → Visiting b m cells' count' next' xs' ms'
  unfolding run
  visiting_turn cells' count' next' xs' ms' e = visiting b m cells' count' next' xs' ms' (suc fell_to.0) (e ∙ ap (step b) fell_to.1)

-- ---- for the loop of walk: opening keeps what the loop keeps
module _ (b : Chart) (xs : List ℕ) (m : Memory) where
  abbrev at : List ℕ → ℕ → State
  at cs n = record { stack = cs; next = n; memory = m }

  -- from the stack cs, with n next
  pub record Fell (cs : List ℕ) (n : ℕ) (end : List ℕ) : Type 0 where
    pub keeps : Keeps b xs (at end 0)
    pub some : 0 < length end
    pub fewer : turns b most_turns (at end 0) ≤ turns b most_turns (at cs n)

  stays : (cs : List ℕ) → 0 < length cs → Keeps b xs (at cs 0) → Fell cs 0 cs
  stays cs l h = record { keeps = h; some = l; fewer = omega arith }

  abbrev opening : (n : ℕ) (cs : List ℕ) → 0 < length cs → Keeps b xs (at cs (suc n)) → Turning b (at cs (suc n))
  opening n cs l h = keeps_turning b xs (at cs (suc n)) h l

  goes : (n : ℕ) (cs : List ℕ) → at (suc n ∷ cs) (link b.links (suc n) 0) ≡ step b (at cs (suc n))
  goes n cs = sym (step_open b cs (suc n) m (omega arith))

  on : (n : ℕ) (cs end : List ℕ) (l : 0 < length cs) (h : Keeps b xs (at cs (suc n))) → Fell (suc n ∷ cs) (link b.links (suc n) 0) end → Fell cs (suc n) end
  on n cs end l h r =
      record {
        keeps = r.keeps;
        some = r.some;
        fewer = omega (arith, r.fewer, keeps_less b xs (at cs (suc n)) h l _ (goes n cs));
      }

  fell : (d n : ℕ) (cs : List ℕ) → 0 < length cs → 32 ≤ length cs + d → Keeps b xs (at cs n) → Fell cs n (fallen b.links d n cs) × Falls b.links d (length cs) n
  unfolding fallen
  fell zero zero cs l r h = (stays cs l h, refl)
  fell zero (suc n) cs l r h = absurd (omega (arith, ((opening n cs l h).into (omega arith)).room))
  fell (suc d) zero cs l r h = (stays cs l h, λ z. absurd (omega arith))
  fell (suc d) (suc n) cs l r h =
      let into = (opening n cs l h).into (omega arith) in
      let (f, g) = fell d (link b.links (suc n) 0) (suc n ∷ cs) (omega arith) (omega arith) (keeps_turn b xs (at cs (suc n)) h l _ (goes n cs)) in
      (on n cs _ l h f, λ z. (into.room, into.links, into.small, g))

  pub fall : (n : ℕ) (cs : List ℕ) → 0 < length cs → Keeps b xs (at cs n) → Fell cs n (fallen b.links 32 n cs) × Falls b.links 32 (length cs) n
  fall n cs l h = fell 32 n cs l (omega arith) h
