-- A step, on scratches that hold anything, and on those that a sheet being made has left. Nothing that a reader must believe stands here. Assumes nothing.
use Rattle.std.specs.Prelude.{◌≡◌, refl, ◌≢◌, List, ◌++◌, Bool, cond, get_or, take, drop, replicate, eqb, leb, ℤ, Option, Some, None, Result, Ok, Err, IsErrAnd}
use Rattle.std.proofs.Common.{◌∙◌, ap, sym, subst, arith, add-one, length-set, take-append-drop, leb→le}
use Rattle.std.proofs.Math.Bool.{true, false}
use Prim.Native.Nat.{ℕ, suc, ◌+◌, ◌*◌, ◌≤◌, ◌<◌}
use Rattle.std.proofs.Math.ListN.{length, set}
use Rattle.std.proofs.lemmas.List.{set-get_or}
use Rattle.std.proofs.Math.Seq.{take-append_seam}
use Rattle.std.proofs.Math.Dec.{ltb}
use borrow.Author.Tests.{lt-ltb, le-ltb, ne_eqb, eqb-true}
use Rattle.plan.specs.Limits.{scratch_size, second_size}
use Rattle.plan.specs.Plan.{Table}
use Rattle.plan.specs.Fit.{Fit}
use Rattle.plan.specs.Questions.{asked, passed}
use Rattle.plan.proofs.Laws.Questions.{both-none, asked_yes}
use Rattle.plan.proofs.Laws.Answered.{refused_by, answers_err, answered_some}
use Rattle.plan.proofs.Laws.Calls.{step-refusal}
use Rattle.plan.specs.declared.Refusal.{Refusal}
use Rattle.contours.specs.Sheet.{sheet}
use Rattle.least.proofs.Asked.{layout-asks}
use Rattle.links.proofs.Laws.Linked.{zeros_get}
use Rattle.positions.specs.Written.{written}
use Rattle.joining.specs.Joining.{Memory, memory_of}
use Rattle.layout.proofs.Laws.Laid.{nothing}
use Rattle.finishing_order.specs.Postorder.{postorder}
use Rattle.finishing_cell.specs.Made.{work, worked, cleared, made}
use Rattle.finishing_guard.specs.Guard.{count_at}
use Rattle.finishing_asks.specs.Asks.{step_no}
use Rattle.finishing_asks.proofs.Laws.Asks.{zero_of}
use Rattle.finishing_step.specs.Stepping.{Holds, stepped_at, finished_after, positions_after, Steps}
use Rattle.finishing_cell.specs.Taking.{Took}
use Rattle.finishing_step.specs.Advancing.{Concluded, Advances}
use Rattle.finishing_cell.proofs.Laws.Final as final
use Rattle.finishing_cell.proofs.Laws.Final.{worked-long, count-read}
use Rattle.finishing_guard.proofs.Laws.Guard.{bool_apart}

-- ---- the end of a step
pub concluded_yes : {t : Table} {al : ℕ} {z : Bool} {xs ys : List ℕ} {ps qs : List ℤ} → z ≡ true → ys ≡ replicate scratch_size 0 → qs ≡ written ps (sheet t al) (length t) → Concluded t al z xs ys ps qs
concluded_yes q a b = record { yes = λ e. (a, b); no = λ e. absurd (bool_apart (sym q ∙ e)) }

pub concluded_no : {t : Table} {al : ℕ} {z : Bool} {xs : List ℕ} {ps : List ℤ} → z ≡ false → Concluded t al z xs xs ps ps
concluded_no q = record { yes = λ e. absurd (bool_apart (sym e ∙ q)); no = λ e. (refl, refl) }

-- ---- the start: its scratches are those after no step
pub made_none : (t : Table) (al : ℕ) → made t al 0 ≡ cleared
unfolding made worked work cleared
made_none t al =
    let z : set (replicate {A = ℕ} scratch_size 0) count_at 0 ≡ replicate scratch_size 0 =
    ap (set (replicate {A = ℕ} scratch_size 0) count_at) (sym (zeros_get scratch_size count_at)) ∙ set-get_or (replicate {A = ℕ} scratch_size 0) count_at 0 in
    ap (λ (z : List ℕ). memory_of z (replicate second_size 0)) z

-- ---- a step on scratches of 16,384 and 1,024 numbers
module _ (t : Table) (fit : Fit t) (al : ℕ) (xs ms : List ℕ) (ps : List ℤ) (k : ℕ) (ek : k ≡ get_or xs count_at 0) where
  -- the number of steps that is read is the true one
  same : (j : ℕ) → memory_of xs ms ≡ made t al j → j ≡ k
  same j e = sym (ek ∙ ap (λ (m : Memory). get_or m.rows count_at 0) e ∙ count-read t fit.sound al j)

  pub step-over : length t ≤ k → Advances t al (memory_of xs ms) (memory_of xs ms) ps ps None
  unfolding stepped_at finished_after positions_after
  step-over l = record {
    answers = λ j le e. let past : ltb j (length t) ≡ false = le-ltb j (length t) (omega (arith, same j e)) in rw past;
    memory = λ j le e. let past : ltb j (length t) ≡ false = le-ltb j (length t) (omega (arith, same j e)) in rw past e;
    positions = λ j le e. let ne : suc j ≢ length t = omega (arith, same j e) in rw (ne_eqb (suc j) (length t) ne);
    idle = λ e. (refl, refl);
  }

  module _ (l : k < length t) (n : Memory) where
    pub step_tampered : {r : Result ℕ ℕ} {c : ℕ} → r ≡ Err c → Took t al k (memory_of xs ms) n r → Advances t al (memory_of xs ms) n ps ps None
    step_tampered {r} {c} q h =
        let never : (j : ℕ) → memory_of xs ms ≡ made t al j → ⊥ = (λ j e. let w : Err c ≡ Ok (get_or (postorder t) k 0) = sym q ∙ (h.on (e ∙ ap (made t al) (same j e))).0 in cc) in
        record { answers = λ j le e. absurd (never j e); memory = λ j le e. absurd (never j e); positions = λ j le e. absurd (never j e); idle = λ e. (h.no c q, refl) }

    pub step-done : {r : Result ℕ ℕ} {c : ℕ} → r ≡ Ok c → Took t al k (memory_of xs ms) n r → (z : Bool) → z ≡ eqb (k + 1) (length t) → (ys zs : List ℕ) (qs : List ℤ) → Concluded t al z n.rows ys ps qs → zs ≡ set ys count_at (k + 1)
        → Advances t al (memory_of xs ms) (memory_of zs n.marks) ps qs (Some c)
    unfolding stepped_at finished_after positions_after made
    step-done {r} {c} q h z ez ys zs qs d es = record {
      answers = λ j le e. rw (same j e, there) (ap Some (h.told c q).0);
      memory = λ j le e. let w = taken j e in rw (same j e, there) (λ i. memory_of ((es ∙ (λ i. set (rows_are z ez d w i) count_at (one i))) i) (w i).marks);
      positions = λ j le e. rw (same j e) (rw one at (put z ez d));
      idle = λ e. cc;
    }
      where
        there : ltb k (length t) ≡ true
        there = lt-ltb k (length t) l

        one : k + 1 ≡ suc k
        one = add-one k

        taken : (j : ℕ) → memory_of xs ms ≡ made t al j → n ≡ worked t al (suc k)
        taken j e = (h.on (e ∙ ap (made t al) (same j e))).1

        rows_are : (z : Bool) → z ≡ eqb (k + 1) (length t) → Concluded t al z n.rows ys ps qs → n ≡ worked t al (suc k) → ys ≡ (worked t al (suc k)).rows
        rows_are true ez d w = (d.yes refl).0 ∙ sym (h.clear (sym (add-one k) ∙ eqb-true (k + 1) (length t) (sym ez)))
        rows_are false ez d w = (d.no refl).0 ∙ ap (λ (m : Memory). m.rows) w

        put : (z : Bool) → z ≡ eqb (k + 1) (length t) → Concluded t al z n.rows ys ps qs → qs ≡ cond (eqb (k + 1) (length t)) (written ps (sheet t al) (length t)) ps
        put true ez d = rw (← ez) (d.yes refl).1
        put false ez d = rw (← ez) (d.no refl).1

-- ---- lent scratches
pub made-long : (t : Table) (al k : ℕ) → final.Long (made t al k)
unfolding made
made-long t al k = let w = worked-long t al k in record { rows = length-set (worked t al k).rows count_at k ∙ w.rows; marks = w.marks }

take_front : (n : ℕ) (us vs : List ℕ) → length us ≡ n → take n (us ++ vs) ≡ us
take_front n us vs e = subst (λ (i : ℕ). take i (us ++ vs) ≡ us) e (take-append_seam us vs)

pub held : (t : Table) (al k : ℕ) (xs ms : List ℕ) → Holds t al k xs ms → memory_of (take scratch_size xs) (take second_size ms) ≡ made t al k
held t al k xs ms h =
    let ex : take scratch_size xs ≡ (made t al k).rows = ap (take scratch_size) h.scratch ∙ take_front scratch_size (made t al k).rows (drop scratch_size xs) (made-long t al k).rows in
    let em : take second_size ms ≡ (made t al k).marks = ap (take second_size) h.second ∙ take_front second_size (made t al k).marks (drop second_size ms) (made-long t al k).marks in
    (λ i. memory_of (ex i) (em i))

-- ---- the call: the questions, then the rest
module _ (t : Table) (al : ℕ) (xs ms : List ℕ) (ps : List ℤ) where
  abbrev no : Refusal
  no = step_no t al (length xs) (length ms) (length ps)

  pub step-stopped : ¬ (no.number ≡ 0) → Steps t al xs xs ms ms ps ps (Err no)
  step-stopped z = record {
    refuses = λ _. (refl, record { scratch = refl; second = refl; positions = refl });
    steps = λ y. absurd (z y);
    says = λ y. absurd (z y);
    idle = λ q. cc;
  }

  pub step-refused : (e : Refusal) (y : Result (Option ℕ) Refusal) → Err e ≡ passed no → IsErrAnd y (λ d. d ≡ e) → Steps t al xs xs ms ms ps ps y
  step-refused e y h p =
      let z = (refused_by no tt e h).1 in
      let q : y ≡ Err no = answers_err None no e y h p ∙ answered_some no None z in
      rw q (step-stopped z)

  pub step-asks : no.number ≡ 0 → Fit t × (scratch_size ≤ length xs) × (second_size ≤ length ms) × (2 * length t ≤ length ps)
  step-asks z =
      let y = zero_of (step-refusal t al (length xs) (length ms) (length ps)) z in
      let (two, rest) = both-none (asked 1 (leb second_size (length ms)) 0) _ y in
      let a = (layout-asks t al (length xs) (length ps)).0 (nothing t al (length xs) (length ps) rest) in
      (a.table.fit, a.scratch, leb→le second_size (length ms) (asked_yes 0 _ 0 two), a.positions)

  pub step-taken : no.number ≡ 0 → {a : Option ℕ} {ys ns : List ℕ} {qs : List ℤ} → Advances t al (memory_of (take scratch_size xs) (take second_size ms)) (memory_of ys ns) ps qs a
      → Steps t al xs (ys ++ drop scratch_size xs) ms (ns ++ drop second_size ms) ps qs (Ok a)
  step-taken z {ys = ys} {ns = ns} d = record {
    refuses = λ y. absurd (y z);
    steps = λ _ k h. let m = held t al k xs ms h in record {
      answers = ap Ok (d.answers k h.few m);
      scratch = ap (λ (m : Memory). m.rows ++ drop scratch_size xs) (d.memory k h.few m);
      second = ap (λ (m : Memory). m.marks ++ drop second_size ms) (d.memory k h.few m);
      positions = d.positions k h.few m;
    };
    says = λ _ e q. cc;
    idle = λ q. let (g, p) = d.idle cc in record {
      scratch = ap (λ (m : Memory). m.rows ++ drop scratch_size xs) g ∙ take-append-drop scratch_size xs;
      second = ap (λ (m : Memory). m.marks ++ drop second_size ms) g ∙ take-append-drop second_size ms;
      positions = p;
    };
  }
