-- The loop: the machine from its start to the drill's end; and the list. For the code. Assumes nothing.
use Rattle.std.specs.Prelude.{◌≡◌, Bool, true, false, ◌&&◌, length, get_or, take, drop, ltb}
use Rattle.std.proofs.Math.Path.{refl}
use Rattle.std.proofs.Common.{◌∙◌, ap, sym, arith, take-append-drop, length-drop, ext_get_or, get_or-drop, length-take-le, ltb-true, ltb-false}
use mathlib.Core.List.{List, [], ◌∷◌, ◌++◌}
use Prim.Native.Nat.{ℕ, suc, ◌+◌, ◌-◌, ◌≤◌, ◌<◌}
use Rattle.plan.specs.Limits.{most_cells, most_level, most_steps}
use Rattle.plan.specs.Plan.{Table, Is, kind, level}
use Rattle.plan.specs.Fit.{Fit}
use Rattle.links.specs.Links.{Links}
use Rattle.following.specs.declared.Drilled.{Drilled}
use Rattle.following_cell.specs.declared.Halt.{Halt}
use Rattle.following_cell.specs.declared.Halt.TheVariants.{Going, Spent, Wrong, Full}
use Rattle.moves.specs.Drill.{finished, Drill, in_order, HasEnded, doing, drill_of}
use Rattle.moves.proofs.Laws.Drill.{order_ended}
use Rattle.following.specs.Drilled.{told_as, drill_told}
use Rattle.following_turn.specs.Machine.{Frame, Chain, frames, frames_of, top, below, State, outcome_of, goes, so_far, state_of, Beyond, enter, step}
use Rattle.following_turn.proofs.Laws.Machine.{frames-length, frames-top}
use Rattle.following_cell.specs.Opening.{Cell}
use Rattle.following_turn.specs.Needed.{Entering, Turning, Wrote}
use Rattle.following.proofs.Laws.Runs.{Keeps, keeps_enter, keeps_step, step_less, weight, few_open, next-is}

-- ---- the loop
-- a table that keeps the questions, with its links and kinds
pub record Reads (t : Table) (ls ks : List ℕ) : Type 0 where
  pub fit : Fit t
  pub links : Links t ls
  pub kind_of : (c : ℕ) → Is t c → get_or ks c 0 ≡ kind t c
  pub long : most_cells ≤ length ks

pub record Goes (t : Table) (ls ks bs : List ℕ) (st : State) : Type 0 where
  pub reads : Reads t ls ks
  pub keeps : Keeps t reads.fit ls ks bs reads.links reads.kind_of (drill_of t bs) st

module _ (t : Table) (ls ks bs : List ℕ) where
  cell : Reads t ls ks → (s : ℕ) → Is t s → Cell ls s
  cell h s i = record { table = t; fit = h.fit; links = h.links; is = i }

  pub start_entering : (h : Reads t ls ks) (xs : List ℕ) → most_steps ≤ length xs → Entering ls ks 0 0 0 xs
  start_entering h xs l =
      record { cell = cell h 0 h.fit.some_cell; kinds = omega (arith, h.long); room = omega arith; long = l; few = omega arith }

  pub goes-start : Reads t ls ks → (c : Chain) → c.count ≡ 0 → (xs : List ℕ) {st : State} → st ≡ enter ls ks bs 0 (frames c) (so_far Going 0 0 xs) → Goes t ls ks bs st
  unfolding outcome_of drill_of in_order level frames_of
  goes-start h c z xs e =
      rw (e, z)
      (record { reads = h; keeps = keeps_enter t h.fit ls ks bs h.links h.kind_of (drill_of t bs) 0 h.fit.some_cell [] [] 0 [] refl refl refl })

  module _ (c : Chain) (u r : ℕ) (xs : List ℕ) (some : 0 < c.count) (g : Goes t ls ks bs (state_of c Going u r xs)) where
    abbrev h : Reads t ls ks
    h = g.reads

    stack_is : frames c ≡ top c ∷ below c
    stack_is = frames-top c.cells c.nexts c.times c.count some

    kept : Keeps t h.fit ls ks bs h.links h.kind_of (drill_of t bs) (record { stack = top c ∷ below c; drill = record { outcome = finished; used = u; steps = take r xs } })
    unfolding outcome_of
    kept = rw stack_is at g.keeps

    below_length : length (below c) ≡ c.count - 1
    below_length = frames-length c.cells c.nexts c.times (c.count - 1)

    pub goes_turning : r ≤ most_steps → most_steps ≤ length xs → Turning ls ks c r xs
    goes_turning few long =
        record {
          some = some;
          many = omega (arith, below_length, few_open t h.fit ls ks bs h.links h.kind_of (drill_of t bs) (top c) (below c) u (take r xs) kept);
          kinds = omega (arith, h.long, h.fit.not_too_many, kept.pends.0);
          into = λ l.
              let n = next-is t h.fit ls ks bs h.links h.kind_of (drill_of t bs) (top c) (below c) u (take r xs) kept l in
              record { cell = cell h (top c).next n.0; kinds = omega (arith, h.long, h.fit.not_too_many, n.0); room = omega (arith, below_length, n.1); long = long; few = few };
          few = few;
        }

    pub goes_turn : {st : State} → st ≡ step ls ks bs (state_of c Going u r xs) → Goes t ls ks bs st
    unfolding outcome_of
    goes_turn e =
        rw (e, stack_is)
        (record { reads = h; keeps = keeps_step t h.fit ls ks bs h.links h.kind_of (drill_of t bs) (top c) (below c) u (take r xs) kept })

    pub goes_less : {st : State} → st ≡ step ls ks bs (state_of c Going u r xs) → weight bs st < weight bs (state_of c Going u r xs)
    unfolding outcome_of
    goes_less e = rw (e, stack_is) (step_less t h.fit ls ks bs h.links h.kind_of (drill_of t bs) (top c) (below c) u (take r xs) kept)

  ended_halt : (halt : Halt) → goes halt ≡ false → HasEnded (outcome_of halt)
  unfolding outcome_of
  ended_halt Going e = cc
  ended_halt Spent e = tt
  ended_halt Wrong e = tt
  ended_halt Full e = tt

  pub goes_end : (c : Chain) (halt : Halt) (u r : ℕ) (xs : List ℕ) → Goes t ls ks bs (state_of c halt u r xs) → (goes halt && ltb 0 c.count) ≡ false → so_far halt u r xs ≡ drill_of t bs
  goes_end c halt u r xs g e = go (goes halt) refl
    where
      nothing_left : c.count ≡ 0 → so_far halt u r xs ≡ drill_of t bs
      nothing_left z = on (frames c) (frames-length c.cells c.nexts c.times c.count ∙ z) g.keeps
        where
          on : (fs : List Frame) → length fs ≡ 0 → Keeps t g.reads.fit ls ks bs g.reads.links g.reads.kind_of (drill_of t bs) (record { stack = fs; drill = so_far halt u r xs }) → so_far halt u r xs ≡ drill_of t bs
          on [] z k = unfold in_order in (ap (λ (l : List ℕ). in_order (doing t bs) l (so_far halt u r xs)) (sym k.pends) ∙ k.same)
          on (f ∷ fs) z k = absurd (omega arith)

      none : (n : ℕ) → (true && ltb 0 n) ≡ false → n ≡ 0
      none n q = omega (arith, ltb-false 0 n q)

      go : (b : Bool) → goes halt ≡ b → so_far halt u r xs ≡ drill_of t bs
      go true q = nothing_left (none c.count (rw q at e))
      go false q = sym (order_ended t bs (suc most_level) g.keeps.cells (so_far halt u r xs) (ended_halt halt q)) ∙ g.keeps.same

-- what the loop's test tells
pub goes-both : (b : Bool) (halt : Halt) (n : ℕ) → b ≡ (goes halt && ltb 0 n) → b ≡ true → (halt ≡ Going) × (0 < n)
goes-both b halt n e q = go halt (sym e ∙ q)
  where
    go : (h : Halt) → (goes h && ltb 0 n) ≡ true → (h ≡ Going) × (0 < n)
    go Going w = (refl, ltb-true 0 n w)
    go Spent w = cc
    go Wrong w = cc
    go Full w = cc

pub wrote_more : {o a b : ℕ} {xs ys zs : List ℕ} → Wrote o a xs ys → Wrote a b ys zs → Wrote o b xs zs
wrote_more {o} {a} {b} w v = record { more = omega (arith, w.more, v.more); few = v.few; beyond = λ i l. v.beyond i l ∙ w.beyond i (omega (arith, v.more)) }

-- ---- the whole
pub told_drills : (d : Drill) (r : ℕ) (xs ys : List ℕ) → take r ys ≡ d.steps → length ys ≡ length xs → r ≤ length xs → Beyond r xs ys → ys ≡ d.steps ++ drop (length d.steps) xs
told_drills d r xs ys es el l beyond =
    let n : length d.steps ≡ r = ap length (sym es) ∙ length-take-le r ys (omega arith) in
    let tail : drop r ys ≡ drop r xs = ext_get_or 0 (drop r ys) (drop r xs) (simp length-drop (omega arith)) (λ i q. get_or-drop r ys i 0 ∙ beyond (r + i) (omega arith) ∙ sym (get_or-drop r xs i 0)) in
    sym (take-append-drop r ys) ∙ rw (es, tail, n)

pub told-list : {d : Drill} (halt : Halt) (u r : ℕ) {xs ys : List ℕ} {a : Drilled} → so_far halt u r ys ≡ d → length ys ≡ length xs → most_steps ≤ length xs → Wrote 0 r xs ys → a ≡ told_as (outcome_of halt) u r
    → (a ≡ drill_told d) × (ys ≡ d.steps ++ drop (length d.steps) xs)
unfolding drill_told
told-list {d} halt u r {xs} {ys} e el long w ea =
    let n : length (take r ys) ≡ r = length-take-le r ys (omega (arith, w.few)) in (
      ea ∙ rw (← e) (rw n),
      told_drills d r xs ys (ap (λ (x : Drill). x.steps) e) el (omega (arith, w.few)) w.beyond,
    )
