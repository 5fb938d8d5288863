-- DEMAND 1: A CALL'S REFUSAL IS THE FIRST "NO" OF THE SEQUENCE (document 01: "The first "no" in this sequence gives the number", "the lowest cell at
-- fault"). Whoever knows `sequence`, `kept` and `holds` of crate plan needs to read only `FirstNo` and the two statements at the end. Assumes nothing.
use Rattle.std.specs.Prelude.{◌≡◌, refl, Bool, ◌↔◌, length}
use Rattle.std.proofs.Math.Path.{sym, ap}
use Rattle.std.proofs.Common.{◌∙◌}
use mathlib.Core.List.{List, [], ◌∷◌, ◌++◌}
use Rattle.std.proofs.Math.Bool.{true, false, cond}
use Prim.Native.Nat.{ℕ, zero, suc, ◌+◌, ◌≤◌, ◌<◌}
use native.Mathlib.Omega.{arith}
use Rattle.std.proofs.Math.Decide.{ℕ_discrete}
use Rattle.std.proofs.Math.Dec.{T}
use Rattle.whole.proofs.Laws.Says.{itself, is_false}
use Rattle.plan.specs.Questions as asked
use Rattle.plan.specs.Questions.{Call, Given, Question, Step, once, each, number, sequence, kept, none, or_else, at_each, ask, ask_all, take_step, take_steps, refusal}
use Rattle.plan.proofs.Laws.Questions.{first-none, first_some}
use Rattle.plan.proofs.Laws.Kept.{none_first}
use Rattle.plan.specs.declared.Refusal.{Refusal}
use Rattle.least.specs.Refusals.{Yes, YesSteps}
use Rattle.least.proofs.Laws.Refusals.{not_zero, ask_show, all_read, all_show, step-read, step_show, refusal-none}
use Rattle.least.specs.FirstNo.{questions, PutTo, FirstNoOf, FirstNo}

module _ (g : Given) where
  -- ---- the same within one step, at one cell
  record FirstOf (qs : List Question) (c k : ℕ) : Type 0 where
    before : List Question
    question : Question
    after : List Question
    place : qs ≡ before ++ (question ∷ after)
    numbered : number question ≡ k
    no : ¬ T (asked.holds g question c)
    before_yes : Yes g before c

  abbrev named : ℕ → ℕ → Refusal
  named k c = record { number = k; cell = c }

  -- a question that is put and answered no
  ask-no : (q : Question) (c : ℕ) → ¬ T (asked.holds g q c) → ask g q c ≡ named (number q) c
  unfolding ask asked.asked
  ask-no q c h = rw (is_false (itself (asked.holds g q c)) h, ask, asked.asked)

  ask_cases : (q : Question) (c : ℕ) → Dec (T (asked.holds g q c))
  ask_cases q c = go (asked.holds g q c)
    where
      go : (b : Bool) → Dec (T b)
      go true = yes tt
      go false = no (λ h. h)

  -- one that is put alone
  ask_alone : (q : Question) (c : ℕ) → ask_all g (q ∷ []) c ≡ ask g q c
  unfolding ask_all ask asked.asked
  ask_alone q c = go (asked.holds g q c)
    where
      go : (b : Bool) → or_else (cond b none (named (number q) c)) none ≡ cond b none (named (number q) c)
      go true = none_first none
      go false = first_some (named (number q) c) none (not_zero q)

  -- ---- from the refusal to the first no
  all_find : (qs : List Question) (c k d : ℕ) → ask_all g qs c ≡ named k d → ¬ (k ≡ 0) → FirstOf qs c k × (d ≡ c)
  unfolding ask_all
  all_find [] c k d e n = absurd (n (ap (λ (r : Refusal). r.number) (sym e)))
  all_find (q ∷ qs) c k d e n = go (ask_cases q c) (λ z. all_find qs c k d z n)
    where
      more : T (asked.holds g q c) → FirstOf qs c k × (d ≡ c) → FirstOf (q ∷ qs) c k × (d ≡ c)
      more y (f, z) = (
        record {
          before = q ∷ f.before;
          question = f.question;
          after = f.after;
          place = ap (λ (l : List Question). q ∷ l) f.place;
          numbered = f.numbered;
          no = f.no;
          before_yes = (y, f.before_yes);
        },
        z,
      )

      go : Dec (T (asked.holds g q c)) → (ask_all g qs c ≡ named k d → FirstOf qs c k × (d ≡ c)) → FirstOf (q ∷ qs) c k × (d ≡ c)
      go (yes h) rest = more h (rest (sym (ap (λ (r : Refusal). or_else r (ask_all g qs c)) (ask_show g q c h) ∙ none_first _) ∙ e))
      go (no h) rest =
          let s : or_else (ask g q c) (ask_all g qs c) ≡ named (number q) c = ap (λ (r : Refusal). or_else r (ask_all g qs c)) (ask-no q c h) ∙ first_some (named (number q) c) _ (not_zero q) in
          let z : named (number q) c ≡ named k d = sym s ∙ e in (
            record { before = []; question = q; after = qs; place = refl; numbered = ap (λ (r : Refusal). r.number) z; no = h; before_yes = tt },
            ap (λ (r : Refusal). r.cell) (sym z),
          )

  -- the first cell of those from k on
  each_find : (f : ℕ → Refusal) (k d : ℕ) (r : Refusal) → at_each f k d ≡ r → ¬ (r.number ≡ 0)
      → (c : ℕ) × (k ≤ c) × (c < k + d) × (f c ≡ r) × ((b : ℕ) → k ≤ b → b < c → (f b).number ≡ 0)
  unfolding at_each
  each_find f k zero r e n = absurd (n (ap (λ (x : Refusal). x.number) (sym e)))
  each_find f k (suc d) r e n = go (ℕ_discrete (f k).number 0) (λ z. each_find f (suc k) d r z n)
    where
      go : Dec ((f k).number ≡ 0) → (at_each f (suc k) d ≡ r → (c : ℕ) × (suc k ≤ c) × (c < suc k + d) × (f c ≡ r) × ((b : ℕ) → suc k ≤ b → b < c → (f b).number ≡ 0))
          → (c : ℕ) × (k ≤ c) × (c < k + suc d) × (f c ≡ r) × ((b : ℕ) → k ≤ b → b < c → (f b).number ≡ 0)
      go (yes z) rest =
          let (c, l, h, q, y) = rest (sym (first-none (f k) _ z) ∙ e) in
          (c, omega arith, omega arith, q, λ b i j. elim (ℕ_discrete b k) [ yes s ↦ rw s z | no s ↦ y b (omega arith) j ])
      go (no z) rest = (k, omega arith, omega arith, sym (first_some (f k) _ z) ∙ e, λ b i j. absurd (omega arith))

  record FirstIn (s : Step) (c k : ℕ) : Type 0 where
    here : FirstOf (questions s) c k
    put_to : PutTo g s c
    lower_yes : (c' : ℕ) → c' < c → Yes g (questions s) c'

  step_find : (s : Step) (k d : ℕ) → take_step g s ≡ named k d → ¬ (k ≡ 0) → FirstIn s d k
  unfolding take_step
  step_find (once q) k d e n =
      let (f, z) = all_find (q ∷ []) 0 k d (ask_alone q 0 ∙ e) n in
      record { here = rw z f; put_to = z; lower_yes = λ c l. absurd (omega arith) }
  step_find (each qs) k d e n =
      let (c, l, h, q, y) = each_find (ask_all g qs) 0 (length g.table) (named k d) e n in
      let (f, z) = all_find qs c k d q n in
      record { here = rw z f; put_to = omega arith; lower_yes = λ b j. all_read g qs b (y b (omega arith) (omega arith)) }

  pub steps_find : (ss : List Step) (k c : ℕ) → take_steps g ss ≡ named k c → ¬ (k ≡ 0) → FirstNoOf g ss k c
  unfolding take_steps
  steps_find [] k c e n = absurd (n (ap (λ (r : Refusal). r.number) (sym e)))
  steps_find (s ∷ ss) k c e n = go (ℕ_discrete (take_step g s).number 0) (λ z. steps_find ss k c z n)
    where
      go : Dec ((take_step g s).number ≡ 0) → (take_steps g ss ≡ named k c → FirstNoOf g ss k c) → FirstNoOf g (s ∷ ss) k c
      go (yes z) rest =
          let f = rest (sym (first-none (take_step g s) _ z) ∙ e) in
          record {
            earlier = s ∷ f.earlier;
            step = f.step;
            later = f.later;
            order = ap (λ (l : List Step). s ∷ l) f.order;
            before = f.before;
            question = f.question;
            after = f.after;
            place = f.place;
            numbered = f.numbered;
            put_to = f.put_to;
            no = f.no;
            earlier_yes = (step-read g s z, f.earlier_yes);
            lower_yes = f.lower_yes;
            before_yes = f.before_yes;
          }
      go (no z) rest =
          let f = step_find s k c (sym (first_some (take_step g s) _ z) ∙ e) n in
          let h = f.here in
          record {
            earlier = [];
            step = s;
            later = ss;
            order = refl;
            before = h.before;
            question = h.question;
            after = h.after;
            place = h.place;
            numbered = h.numbered;
            put_to = f.put_to;
            no = h.no;
            earlier_yes = tt;
            lower_yes = f.lower_yes;
            before_yes = h.before_yes;
          }

  -- ---- and back
  all-no : (before : List Question) (q : Question) (after : List Question) (c : ℕ) → Yes g before c → ¬ T (asked.holds g q c) → ask_all g (before ++ (q ∷ after)) c ≡ named (number q) c
  unfolding ask_all
  all-no [] q after c y h = ap (λ (r : Refusal). or_else r (ask_all g after c)) (ask-no q c h) ∙ first_some (named (number q) c) _ (not_zero q)
  all-no (b ∷ before) q after c y h =
      ap (λ (x : Refusal). or_else x (ask_all g (before ++ (q ∷ after)) c)) (ask_show g b c y.0) ∙ none_first _ ∙ all-no before q after c y.1 h

  each-no : (f : ℕ → Refusal) (k d c : ℕ) (r : Refusal) → k ≤ c → c < k + d → ((b : ℕ) → k ≤ b → b < c → f b ≡ none) → f c ≡ r → ¬ (r.number ≡ 0) → at_each f k d ≡ r
  unfolding at_each
  each-no f k zero c r l h y e n = absurd (omega arith)
  each-no f k (suc d) c r l h y e n = go (ℕ_discrete k c) (λ p q. each-no f (suc k) d c r p q (λ b i j. y b (omega arith) j) e n)
    where
      go : Dec (k ≡ c) → (suc k ≤ c → c < suc k + d → at_each f (suc k) d ≡ r) → or_else (f k) (at_each f (suc k) d) ≡ r
      go (yes z) rest = ap (λ (x : Refusal). or_else x (at_each f (suc k) d)) (ap f z ∙ e) ∙ first_some r _ n
      go (no z) rest = ap (λ (x : Refusal). or_else x (at_each f (suc k) d)) (y k (omega arith) (omega arith)) ∙ none_first _ ∙ rest (omega arith) (omega arith)

  step_no : (s : Step) (before : List Question) (q : Question) (after : List Question) (c : ℕ) → questions s ≡ before ++ (q ∷ after) → PutTo g s c
      → ((c' : ℕ) → c' < c → Yes g (questions s) c') → Yes g before c → ¬ T (asked.holds g q c) → take_step g s ≡ named (number q) c
  unfolding take_step
  step_no (once a) before q after c e t low y h = sym (ask_alone a 0) ∙ ap (λ (x : ℕ). ask_all g (a ∷ []) x) (sym t) ∙ rw e (all-no before q after c y h)
  step_no (each qs) before q after c e t low y h =
      each-no (ask_all g qs) 0 (length g.table) c (named (number q) c) (omega arith) (omega arith)
      (λ b i j. all_show g qs b (low b j)) (rw e (all-no before q after c y h)) (not_zero q)

  steps-no : (earlier : List Step) (s : Step) (later : List Step) (r : Refusal) → YesSteps g earlier → take_step g s ≡ r → ¬ (r.number ≡ 0)
      → take_steps g (earlier ++ (s ∷ later)) ≡ r
  unfolding take_steps
  steps-no [] s later r y e n = ap (λ (x : Refusal). or_else x (take_steps g later)) e ∙ first_some r _ n
  steps-no (a ∷ earlier) s later r y e n =
      ap (λ (x : Refusal). or_else x (take_steps g (earlier ++ (s ∷ later)))) (step_show g a y.0) ∙ none_first _ ∙ steps-no earlier s later r y.1 e n

  pub found_refuses : (ss : List Step) (k c : ℕ) → FirstNoOf g ss k c → take_steps g ss ≡ named k c
  found_refuses ss k c f =
      let e = step_no f.step f.before f.question f.after c f.place f.put_to f.lower_yes f.before_yes f.no in
      let r = steps-no f.earlier f.step f.later (named (number f.question) c) f.earlier_yes e (not_zero f.question) in
      rw (f.order, ← f.numbered) r

module _ (call : Call) (g : Given) where
  -- ---- DEMAND 1. The refusal is number k at cell c exactly where that is the first "no".
  pub first_no : (k c : ℕ) → 1 ≤ k → (refusal call g ≡ record { number = k; cell = c }) ↔ FirstNo call g k c
  unfolding refusal
  first_no k c h = (λ e. steps_find g (kept call sequence) k c e (λ z. absurd (omega arith)), found_refuses g (kept call sequence) k c)

  -- There is none, 0 and 0, exactly where every question that the call puts is answered yes at every cell that it is put to.
  pub no-no : (refusal call g ≡ none) ↔ YesSteps g (kept call sequence)
  no-no = refusal-none call g

  -- One of the two holds, and one pair at the most is the first "no".
  pub one-no : (k c k' c' : ℕ) → 1 ≤ k → 1 ≤ k' → FirstNo call g k c → FirstNo call g k' c' → (k ≡ k') × (c ≡ c')
  one-no k c k' c' h h' f f' =
      let e = sym ((first_no k c h).1 f) ∙ (first_no k' c' h').1 f' in
      (ap (λ (r : Refusal). r.number) e, ap (λ (r : Refusal). r.cell) e)
