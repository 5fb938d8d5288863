-- From the questions and the halving to the answer: for the code. Nothing that a reader must believe stands here. Assumes nothing.
use Rattle.std.specs.Prelude.{◌≡◌, List, ◌++◌, Bool, true, false, cond, ℕ, zero, suc, ◌+◌, ◌-◌, ◌*◌, ◌/◌, ◌^◌, ◌≤◌, ◌<◌, length, leb, pos, Option, Some, None, Result, Ok, Err, IsErrAnd, ⊤}
use Rattle.std.proofs.Math.Path.{refl}
use Rattle.std.proofs.Common.{◌∙◌, ap, sym, arith, pow-suc, pow_pos, leb→le}
use Rattle.std.proofs.Math.ListN.{drop, replicate}
use Rattle.std.proofs.Math.Dec.{T}
use Rattle.std.specs.Int.Signed.{le_z}
use borrow.Author.Tests.{lt-leb}
use Rattle.whole.proofs.Laws.Whole.{not_le}
use Rattle.whole.proofs.Laws.Says.{says_le_z}
use Rattle.plan.specs.Limits.{most_allowance, scratch_size}
use Rattle.plan.specs.Plan.{Table}
use Rattle.plan.specs.Fit.{Fit}
use Rattle.plan.proofs.Laws.Fit.{counted_fit}
use Rattle.plan.specs.Questions.{frame, refusal, frame_given, asked, or_else, answered, passed}
use Rattle.plan.proofs.Laws.Questions.{both-none, asked_yes}
use Rattle.plan.proofs.Laws.Answered.{refused_by, answered_some, answers_err, answers_ok, passes}
use Rattle.plan.specs.Steps.{counted_refusal}
use Rattle.plan.proofs.Laws.Calls.{frame-refusal}
use Rattle.plan.specs.declared.Refusal.{Refusal}
use Rattle.rules.specs.Placement.{width}
use Rattle.contours.specs.Sheet.{sheet}
use Rattle.least.specs.Frame.{Found, nowhere, found, fits, least_allowance}
use Rattle.least.proofs.Laws.Frame.{Halved, halved_start, halved_fits, halved_wide, halved_done, nowhere-wide}
use Rattle.plan.specs.declared.Columns.{Columns}
use Rattle.layout.specs.Laid.{Placeable}
use Rattle.fitting.specs.Fitted.{told, fitted_of, frame_scratch_after, Frames}

-- ---- the entry: the questions, whose refusal is `why`, then the search
module _ (t : Table) (f : ℕ) (s : List ℕ) where
  abbrev pub why : Refusal
  why = refusal frame (frame_given t f (length s))

  pub refused : (e : Refusal) (y : Result (Option ℕ) Refusal) → Err e ≡ passed why → IsErrAnd y (λ d. d ≡ e) → Frames t f s s y
  unfolding fitted_of frame_scratch_after
  refused e y h p =
      let q = refused_by why tt e h in
      let g : y ≡ answered why _ = answers_err _ why e y h p in
      let k : y ≡ Err why = g ∙ answered_some why _ q.1 in
      record { answers = g; scratch = rw k }

  pub asks : why.number ≡ 0 → Fit t × (scratch_size ≤ length s)
  asks z =
      let y : (or_else (asked 1 (leb scratch_size (length s)) 0) (or_else (counted_refusal t) (asked 19 (leb 1 f) 0))).number ≡ 0 = ap (λ (x : Refusal). x.number) (sym (frame-refusal t f (length s))) ∙ z in
      let (one, rest) = both-none (asked 1 (leb scratch_size (length s)) 0) _ y in
      (counted_fit t (both-none (counted_refusal t) _ rest).0, leb→le scratch_size (length s) (asked_yes 0 _ 0 one))

  module _ (u : ⊤) (h : Ok u ≡ passed why) where
    pub unrefused : Fit t × (scratch_size ≤ length s)
    unrefused = asks (passes why u h)

    pub done : (s' : List ℕ) (a : Option ℕ) → a ≡ told (least_allowance t f) → s' ≡ replicate scratch_size 0 → Frames t f s (s' ++ drop scratch_size s) (Ok a)
    unfolding fitted_of
    done s' a q y = record { answers = ap Ok q ∙ answers_ok why u h _; scratch = rw (q, y) (after (least_allowance t f)) }
      where
        after : (x : Found) → replicate scratch_size 0 ++ drop scratch_size s ≡ frame_scratch_after (Ok (told x)) s
        after nowhere = unfold frame_scratch_after told in refl
        after (found b) = unfold frame_scratch_after told in refl

-- ---- one sheet: its width w against the frame
pub measured : (t : Table) (f al w : ℕ) → pos w ≡ width t (sheet t al) → leb w f ≡ fits t f al
unfolding fits
measured t f al w e = rw (← e) refl

-- the scratch is zeros again, and may be lent again
pub again : (t : Columns) (tops s s' : List ℕ) → Placeable t tops s → s' ≡ replicate scratch_size 0 → Placeable t tops s'
again t tops s s' p e = record { fit = p.fit; rows = p.rows; scratch = e }

-- ---- how often a size is halved until it is 1, at most k times: what the loop is measured by
unfoldable pub turns_of : ℕ → ℕ → ℕ
turns_of zero n = 0
turns_of (suc k) n = let r = turns_of k (n / 2) in cond (leb n 1) 0 (suc r)

turns_power : (k j : ℕ) → j ≤ k → turns_of k (2 ^ j) ≡ j
unfolding turns_of
turns_power zero zero h = refl
turns_power zero (suc j) h = absurd (omega arith)
turns_power (suc k) zero h = refl
turns_power (suc k) (suc j) h =
    let p : 2 ^ suc j ≡ 2 ^ j * 2 = pow-suc 2 j in
    let o : 0 < 2 ^ j = pow_pos j in
    let d : 2 ^ suc j / 2 ≡ 2 ^ j = omega arith in
    let g : 1 < 2 ^ suc j = omega arith in
    rw (lt-leb (2 ^ suc j) 1 g, d, turns_power k j (omega arith)) refl

-- ---- the halving. All allowances before low are too wide, low + size - 1 fits, and size is a power of two, at most the sixteenth
pub record Halving (t : Table) (f low size : ℕ) : Type 0 where
  pub fit : Fit t
  pub left : ℕ
  pub turns : left ≤ 16
  pub power : size ≡ 2 ^ left
  pub some : 1 ≤ size
  pub bounds : Halved t fit.some_cell fit.sound f low (low + size - 1)

module _ (t : Table) (f : ℕ) where
  pub halving_start : Fit t → T (fits t f most_allowance) → Halving t f 0 (suc most_allowance)
  halving_start fit h = record { fit = fit; left = 16; turns = omega arith; power = refl; some = omega arith; bounds = halved_start t fit.some_cell fit.sound f h }

  -- a size above 1 is even, and its half a power of two
  record Even (size left : ℕ) : Type 0 where
    even : size ≡ size / 2 + size / 2
    some_half : 1 ≤ size / 2
    fewer : ℕ
    less : fewer < left
    power : size / 2 ≡ 2 ^ fewer

  evens : (size k : ℕ) → size ≡ 2 ^ k → 1 < size → Even size k
  evens size zero e l = absurd (let z : size ≡ 1 = e in omega arith)
  evens size (suc k) e l =
      let z : size ≡ 2 ^ k * 2 = e ∙ pow-suc 2 k in
      record { even = omega arith; some_half = omega arith; fewer = k; less = omega arith; power = omega arith }

  module _ (low size : ℕ) (h : Halving t f low size) (l : 1 < size) where
    -- the greatest allowance looked at is below 65,536
    pub halving_room : (1 ≤ size / 2) × (low + size / 2 ≤ suc most_allowance)
    halving_room = omega (arith, h.bounds.most, (evens size h.left h.power l).some_half)

    pub halving_turn : (low' : ℕ) → low' ≡ cond (fits t f (low + size / 2 - 1)) low (low + size / 2) → Halving t f low' (size / 2)
    halving_turn low' e = go (fits t f (low + size / 2 - 1)) refl e
      where
        next : Even size h.left
        next = evens size h.left h.power l

        go : (v : Bool) → fits t f (low + size / 2 - 1) ≡ v → low' ≡ cond v low (low + size / 2) → Halving t f low' (size / 2)
        go true y q =
            rw q (record {
              fit = h.fit;
              left = next.fewer;
              turns = omega (arith, h.turns, next.less);
              power = next.power;
              some = next.some_half;
              bounds = halved_fits t h.fit.some_cell h.fit.sound f low (low + size - 1) (low + size / 2 - 1) h.bounds (omega (arith, next.some_half)) (omega (arith, next.even, next.some_half)) (rw y tt);
            })
        go false y q =
            let w = halved_wide t h.fit.some_cell h.fit.sound f low (low + size - 1) (low + size / 2 - 1) h.bounds (omega (arith, next.some_half)) (omega (arith, next.even, next.some_half)) (λ n. rw y at n) in
            let a : low + size / 2 - 1 + 1 ≡ low + size / 2 = omega (arith, next.some_half) in
            let b : low + size - 1 ≡ low + size / 2 + size / 2 - 1 = omega (arith, next.even) in
            let v = rw a at w in
            rw q (record {
              fit = h.fit;
              left = next.fewer;
              turns = omega (arith, h.turns, next.less);
              power = next.power;
              some = next.some_half;
              bounds = rw b at v;
            })

  -- a turn of the loop leaves one turn less
  pub halving_less : (low size : ℕ) → Halving t f low size → 1 < size → turns_of 16 (size / 2) < turns_of 16 size
  halving_less low size h l =
      let e = evens size h.left h.power l in
      let a : turns_of 16 size ≡ h.left = rw h.power (turns_power 16 h.left h.turns) in
      let b : turns_of 16 (size / 2) ≡ e.fewer = rw e.power (turns_power 16 e.fewer (omega (arith, h.turns, e.less))) in
      omega (arith, e.less)

  pub halving_done : (low size : ℕ) → Halving t f low size → size ≤ 1 → least_allowance t f ≡ found low
  halving_done low size h l =
      let e : low + size - 1 ≡ low = omega (arith, h.some) in
      halved_done t h.fit.some_cell h.fit.sound f low low (rw e at h.bounds) (omega arith)

  -- the sheet at 65,535 is too wide
  pub none-fits : Fit t → fits t f most_allowance ≡ false → least_allowance t f ≡ nowhere
  unfolding fits
  none-fits fit e = (nowhere-wide t fit.some_cell fit.sound f).1 (not_le (λ k. let h : T (le_z (width t (sheet t most_allowance)) (pos f)) = (says_le_z _ _).show k in rw e at h))

-- the first of the half that has the answer
pub lower-half : (v : Bool) (a b : ℕ) → v ≡ true → a ≡ cond v a b
lower-half v a b e = rw e

pub upper_half : (v : Bool) (a b : ℕ) → v ≡ false → b ≡ cond v a b
upper_half v a b e = rw e

-- ---- the answer for a table that no question refuses
pub holds : (v : Bool) → v ≡ true → T v
holds v e = rw e tt

pub told-found : (x : Found) (a : ℕ) → x ≡ found a → Some a ≡ told x
unfolding told
told-found x a e = rw e refl

pub told_none : (t : Table) (f : ℕ) → Fit t → fits t f most_allowance ≡ false → None ≡ told (least_allowance t f)
unfolding told
told_none t f fit e = rw (none-fits t f fit e) refl
