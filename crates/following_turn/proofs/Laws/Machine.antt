-- The machine's parts, by cases: what the code's functions return. Assumes nothing.
use Rattle.std.specs.Prelude.{◌≡◌, ◌≢◌, List, ◌∷◌, length, set, take}
use Rattle.std.proofs.Math.Path.{refl, sym}
use Rattle.std.proofs.Common.{◌∙◌, ap, add-one, length-take-le}
use Rattle.std.proofs.Math.Bool.{true, false}
use Prim.Native.Nat.{ℕ, zero, suc, ◌+◌, ◌-◌, ◌≤◌, ◌<◌}
use native.Mathlib.Omega.{arith}
use Rattle.std.proofs.Math.ListN.{get_or}
use Rattle.std.proofs.Math.Seq.{take-suc-set, get_or-set_same, get_or-set_other}
use Rattle.std.proofs.Math.Dec.{ltb}
use borrow.Author.Tests.{eq-eqb, ne_eqb, lt-ltb, le-ltb}
use Rattle.following_cell.specs.declared.Opened.{Opened}
use Rattle.following_cell.specs.declared.Halt.TheVariants.{Going, Full}
use Rattle.plan.specs.Limits.{most_steps}
use Rattle.moves.specs.Drill.{Drill, recorded}
use Rattle.following_cell.specs.Opening.{after, opened}
use Rattle.following_turn.specs.Machine.{Frame, frame, Chain, frames, top, below, frames_of, State, outcome_of, so_far, passed, enter, step_at, step_on, step}
use Rattle.following_turn.specs.Needed.{Wrote}

-- ---- the stack that three arrays and a count show
pub frames-length : (cs ns ks : List ℕ) (k : ℕ) → length (frames_of cs ns ks k) ≡ k
unfolding frames_of
frames-length cs ns ks zero = refl
frames-length cs ns ks (suc k) = ap suc (frames-length cs ns ks k)

-- a store from the top on leaves what is below
module _ (cs ns ks : List ℕ) (i c n m : ℕ) where
  frames-set : (k : ℕ) → k ≤ i → frames_of (set cs i c) (set ns i n) (set ks i m) k ≡ frames_of cs ns ks k
  unfolding frames_of
  frames-set zero le = refl
  frames-set (suc k) le =
      let ne : k ≢ i = omega arith in
      rw (get_or-set_other cs i k c 0 ne, get_or-set_other ns i k n 0 ne, get_or-set_other ks i k m 0 ne, frames-set k (omega arith))

  pub frames_push : i < length cs → i < length ns → i < length ks → frames_of (set cs i c) (set ns i n) (set ks i m) (i + 1) ≡ frame c n m ∷ frames_of cs ns ks i
  unfolding frames_of
  frames_push a b d = rw (add-one, get_or-set_same cs i c 0 a, get_or-set_same ns i n 0 b, get_or-set_same ks i m 0 d, frames-set i (omega arith))

module _ (cs ns ks : List ℕ) (i n m : ℕ) where
  frames-keep : (k : ℕ) → k ≤ i → frames_of cs (set ns i n) (set ks i m) k ≡ frames_of cs ns ks k
  unfolding frames_of
  frames-keep zero le = refl
  frames-keep (suc k) le =
      let ne : k ≢ i = omega arith in
      rw (get_or-set_other ns i k n 0 ne, get_or-set_other ks i k m 0 ne, frames-keep k (omega arith))

  pub frames_pass : i < length ns → i < length ks → frames_of cs (set ns i n) (set ks i m) (i + 1) ≡ frame (get_or cs i 0) n m ∷ frames_of cs ns ks i
  unfolding frames_of
  frames_pass b d = rw (add-one, get_or-set_same ns i n 0 b, get_or-set_same ks i m 0 d, frames-keep i (omega arith))

pub frames-top : (cs ns ks : List ℕ) (k : ℕ) → 0 < k → frames_of cs ns ks k ≡ frame (get_or cs (k - 1) 0) (get_or ns (k - 1) 0) (get_or ks (k - 1) 0) ∷ frames_of cs ns ks (k - 1)
unfolding frames_of
frames-top cs ns ks k lt =
    let e : k ≡ suc (k - 1) = omega arith in
    ap (frames_of cs ns ks) e

-- ---- a step is recorded
module _ (s used records : ℕ) (xs : List ℕ) (long : most_steps ≤ length xs) where
  steps-length : records ≤ most_steps → length (take records xs) ≡ records
  steps-length l = length-take-le records xs (omega arith)

  pub record_one : records < most_steps → so_far Going used (records + 1) (set xs records s) ≡ recorded s (so_far Going used records xs)
  unfolding recorded outcome_of
  record_one l =
      let lt : ltb (length (take records xs)) most_steps ≡ true = lt-ltb (length (take records xs)) most_steps (omega (arith, steps-length (omega arith))) in
      rw (add-one, take-suc-set xs records s (omega arith), lt, recorded)

  pub record_full : most_steps ≤ records → records ≤ most_steps → so_far Full used records xs ≡ recorded s (so_far Going used records xs)
  unfolding recorded outcome_of
  record_full l m =
      let lt : ltb (length (take records xs)) most_steps ≡ false = le-ltb (length (take records xs)) most_steps (omega (arith, steps-length m)) in
      rw (lt, recorded)

  pub wrote_one : records < most_steps → Wrote records (records + 1) xs (set xs records s)
  wrote_one l = record { more = omega arith; few = omega arith; beyond = λ i le. get_or-set_other xs records i s 0 (λ e. omega arith) }

-- ---- a cell is opened
module _ (ls ks bs : List ℕ) (s : ℕ) (fs : List Frame) (used records : ℕ) (xs : List ℕ) {kind : ℕ} (ek : kind ≡ get_or ks s 0) where
  pub enter_step : {gs : List Frame} {d : Drill} → kind ≡ 1 → gs ≡ frame s 0 0 ∷ fs → d ≡ recorded s (so_far Going used records xs) → record { stack = gs; drill = d } ≡ enter ls ks bs s fs (so_far Going used records xs)
  unfolding enter
  enter_step e eg ed =
      let e1 : get_or ks s 0 ≡ 1 = sym ek ∙ e in
      rw (eg, ed, eq-eqb _ 1 e1, enter)

  pub enter-other : {gs : List Frame} (o : Opened) → (kind ≡ 1 → ⊥) → o ≡ opened ls bs s kind used → gs ≡ frame s o.next o.times ∷ fs → record { stack = gs; drill = so_far o.halt o.used records xs } ≡ enter ls ks bs s fs (so_far Going used records xs)
  unfolding enter
  enter-other o z eo eg =
      let e1 : get_or ks s 0 ≡ 1 → ⊥ = λ e. z (ek ∙ e) in
      rw (eg, eo, ek, ne_eqb _ 1 e1, enter)

pub wrote_none : (records : ℕ) (xs : List ℕ) → records ≤ most_steps → Wrote records records xs xs
wrote_none records xs l = record { more = omega arith; few = l; beyond = λ i le. refl }

-- ---- a turn
module _ (ls ks bs : List ℕ) (c : Chain) (some : 0 < c.count) (d : Drill) where
  stack_is : frames c ≡ top c ∷ below c
  stack_is = frames-top c.cells c.nexts c.times c.count some

  pub turn_close : (top c).next ≡ 0 → record { stack = below c; drill = d } ≡ step ls ks bs (record { stack = frames c; drill = d })
  unfolding step_at step_on
  turn_close e = rw (stack_is, e)

  pub turn_open : {n : ℕ} {gs : List Frame} {st : State} → n ≡ (top c).next → 0 < n → gs ≡ passed ls ks (top c) ∷ below c → st ≡ enter ls ks bs n gs d → st ≡ step ls ks bs (record { stack = frames c; drill = d })
  unfolding step_on step_at
  turn_open {n} en l eg es = es ∙ rw (eg, stack_is, en) (go (top c).next (omega arith))
    where
      go : (n : ℕ) → 0 < n → enter ls ks bs n (passed ls ks (top c) ∷ below c) d ≡ step_at ls ks bs n (top c) (below c) d
      go zero l = absurd (omega arith)
      go (suc n) l = refl

pub pass_is : (ls ks : List ℕ) (c : Chain) {k : ℕ} {cs ns ts : List ℕ} → 0 < c.count → c.count - 1 < length c.nexts → c.count - 1 < length c.times → k ≡ get_or ks (top c).cell 0
    → cs ≡ c.cells → ns ≡ set c.nexts (c.count - 1) (after ls k (top c).next (top c).times).next → ts ≡ set c.times (c.count - 1) (after ls k (top c).next (top c).times).times
    → frames_of cs ns ts c.count ≡ passed ls ks (top c) ∷ below c
unfolding passed
pass_is ls ks c {k} some a b ek ec en et =
    let e : c.count ≡ c.count - 1 + 1 = omega arith in
    let t = after ls k (top c).next (top c).times in
    rw (ec, en, et)
    (ap (frames_of c.cells (set c.nexts (c.count - 1) t.next) (set c.times (c.count - 1) t.times)) e
    ∙ frames_pass c.cells c.nexts c.times (c.count - 1) t.next t.times a b
    ∙ rw ek)
