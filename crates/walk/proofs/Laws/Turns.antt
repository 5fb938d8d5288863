-- The chain of open cells as the code has it, and a turn as the code takes it. Assumes nothing.
use Rattle.std.specs.Prelude.{◌≡◌, refl, ◌≢◌, List, [], ◌∷◌, ◌++◌, ℕ, zero, suc, ◌+◌, ◌-◌, ◌*◌, ◌≤◌, ◌<◌, length, get_or, set, take, drop}
use Rattle.std.proofs.Common.{◌∙◌, ap, arith, add-one, get_or-set_same, get_or-set_other}
use Rattle.rows.specs.Rows.{row_size, box_to}
use Rattle.joining.specs.Joining.{Memory, memory_of, height, joined_rows, completed, settled, Settling, finished}
use Rattle.links.specs.Links.{link}
use Rattle.walk.specs.Machine.{Chart, wide, deep, top, apt, stretch, with_stretch, stretch_rows, joined_in, closed, root_closed, step, Finishing, Closing, Ending, Turning}
use Rattle.walk.proofs.Laws.Machine.{step_close, step_end}
use Rattle.walk.specs.Turns.{stack_of, state_of}

pub stack_of-length : (cs : List ℕ) (k : ℕ) → length (stack_of cs k) ≡ k
unfolding stack_of
stack_of-length cs zero = refl
stack_of-length cs (suc k) = ap suc (stack_of-length cs k)

stack_of-set : (cs : List ℕ) (i v k : ℕ) → k ≤ i → stack_of (set cs i v) k ≡ stack_of cs k
unfolding stack_of
stack_of-set cs i v zero le = refl
stack_of-set cs i v (suc k) le =
    let ne : k ≢ i = omega arith in
    rw (get_or-set_other cs i k v 0 ne, stack_of-set cs i v k (omega arith))

pub stack_of_push : (cs : List ℕ) (k v : ℕ) → k < length cs → stack_of (set cs k v) (k + 1) ≡ v ∷ stack_of cs k
unfolding stack_of
stack_of_push cs k v lt = rw (add-one, get_or-set_same cs k v 0 lt, stack_of-set cs k v k (omega arith))

stack_of-more : (cs : List ℕ) (k : ℕ) → stack_of cs (k + 1) ≡ get_or cs k 0 ∷ stack_of cs k
unfolding stack_of
stack_of-more cs k = rw add-one

pub stack_of-top : (cs : List ℕ) (k : ℕ) → 0 < k → stack_of cs k ≡ get_or cs (k - 1) 0 ∷ stack_of cs (k - 1)
unfolding stack_of
stack_of-top cs k lt =
    let e : k ≡ suc (k - 1) = omega arith in
    ap (stack_of cs) e

-- ---- a turn, as the code takes it; the latest open cell is at level k
module _ (b : Chart) (cs : List ℕ) (k : ℕ) (xs ms : List ℕ) where
  two : 0 < k → stack_of cs (k + 1) ≡ get_or cs k 0 ∷ get_or cs (k - 1) 0 ∷ stack_of cs (k - 1)
  two lt = rw (stack_of-more cs k, stack_of-top cs k lt)

  one : k ≡ 0 → stack_of cs (k + 1) ≡ get_or cs k 0 ∷ []
  unfolding stack_of
  one e = rw (stack_of-more cs k, e)

  pub turn_close : {n c f : ℕ} {xs' ms' : List ℕ} → 0 < k → c ≡ get_or cs k 0 → f ≡ get_or cs (k - 1) 0 → n ≡ link b.links c 1 → memory_of xs' ms' ≡ closed b (k - 1) f c (memory_of xs ms) → state_of cs k n xs' ms' ≡ step b (state_of cs (k + 1) 0 xs ms)
  turn_close lt ec ef en em =
      cc (two lt, stack_of-top cs k lt, stack_of-length cs (k - 1), step_close b (get_or cs k 0) (get_or cs (k - 1) 0) (stack_of cs (k - 1)) (memory_of xs ms))

  pub turn_end : {d w : ℕ} {xs' ms' : List ℕ} → k ≡ 0 → d ≡ deep b 0 → w ≡ wide b 0 → memory_of xs' ms' ≡ root_closed (memory_of xs ms) d w → state_of cs k 0 xs' ms' ≡ step b (state_of cs (k + 1) 0 xs ms)
  turn_end ek ed ew em =
      let bottom : stack_of cs k ≡ [] = rw ek (unfold stack_of in refl) in
      cc (one ek, step_end b (get_or cs k 0) (memory_of xs ms))

  -- what a turn needs, told of the chain
  pub shut_two : {c f : ℕ} → Turning b (state_of cs (k + 1) 0 xs ms) → 0 < k → c ≡ get_or cs k 0 → f ≡ get_or cs (k - 1) 0 → Closing b (k - 1) f c xs ms
  shut_two h lt ec ef = rw (ec, ef) (rw (two lt, stack_of-length cs (k - 1)) at (h.shut refl))

  pub shut_one : Turning b (state_of cs (k + 1) 0 xs ms) → k ≡ 0 → Ending b (memory_of xs ms)
  shut_one h e = rw (one e) at (h.shut refl)

  pub turn_some : {n : ℕ} → Turning b (state_of cs k n xs ms) → (0 < k) × (k ≤ 32)
  turn_some h = let e = stack_of-length cs k in (omega (arith, h.some), omega (arith, h.many))

-- ---- the numbers that the code finds on its way
pub settle_ready : (m : Memory) (at f c d w : ℕ) {hs : ℕ} {xs ms : List ℕ} → Finishing m at f c d w → memory_of xs ms ≡ completed m (at + 2) c d w → hs ≡ height m.marks c d → Settling (memory_of xs ms) at f c hs
settle_ready m at f c d w h e eh = rw (e, eh) h.settling

pub finish-found : (m : Memory) (at f c d w place apt a : ℕ) {hs : ℕ} {xs ms xs' ms' : List ℕ} → memory_of xs ms ≡ completed m (at + 2) c d w → hs ≡ height m.marks c d
    → memory_of xs' ms' ≡ settled (memory_of xs ms) at f c hs place apt a → memory_of xs' ms' ≡ finished m at f c d w place apt a
finish-found m at f c d w place apt a e eh es = es ∙ rw (e, eh)

pub root_found : (m : Memory) (d w : ℕ) {hs : ℕ} {xs ms xs' : List ℕ} → memory_of xs ms ≡ completed m 0 0 d w → hs ≡ height m.marks 0 d → xs' ≡ box_to xs 0 0 hs → memory_of xs' ms ≡ root_closed m d w
unfolding root_closed
root_found m d w e eh ex = cc (ap (λ (n : Memory). n.rows) e, ap (λ (n : Memory). n.marks) e)

pub child_ready : (b : Chart) (level f c : ℕ) (xs ms : List ℕ) → Closing b level f c xs ms → {d w at y n : ℕ} {ys : List ℕ} → d ≡ deep b c → w ≡ wide b c → at ≡ 2 * level → y ≡ top b c → n ≡ joined_rows ms f c d → ys ≡ stretch xs y n → Finishing (memory_of ys ms) at f c d w
child_ready b level f c xs ms h ed ew ea ey en eys = rw (eys, ey, en, ed, ew, ea) h.finishing

pub close_found : (b : Chart) (level f c : ℕ) (xs ms : List ℕ) {d w y n place a : ℕ} {ys ys' ms' zs rest : List ℕ} → d ≡ deep b c → w ≡ wide b c → y ≡ top b c → n ≡ joined_rows ms f c d → place ≡ link b.links c 2 → a ≡ apt b f
    → ys ≡ stretch xs y n → memory_of ys' ms' ≡ finished (memory_of ys ms) (2 * level) f c d w place a b.allowance → rest ≡ drop (row_size * y + row_size * n) xs → zs ≡ take (row_size * y) xs ++ (ys' ++ rest) → memory_of zs ms' ≡ closed b level f c (memory_of xs ms)
unfolding closed
close_found b level f c xs ms ed ew ey en ep ea eys em er ez =
    let e = rw (eys, ey, en, ed, ew, ep, ea) at em in
    let ez' = rw (er, ey, en, ed) at ez in
    (λ i. memory_of (ez' i) (e i).marks) ∙ (λ i. memory_of (with_stretch xs (top b c) (stretch_rows b f c ms) (e i).rows) (joined_in b level f c (stretch xs (top b c) (stretch_rows b f c ms)) ms).marks)
