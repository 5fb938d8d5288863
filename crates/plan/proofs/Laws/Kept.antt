-- The steps of a call (`kept`), one after another: a question added to the sequence moves the law of no call that does not put it.
-- Assumes nothing.
use Rattle.std.specs.Prelude.{◌≡◌, List, [], ◌∷◌, Bool, true, false, ◌&&◌, cond, ℕ, zero, suc}
use Rattle.std.proofs.Math.Path.{refl, ap}
use Rattle.std.proofs.Common.{sym, ◌∙◌, arith}
use Rattle.std.proofs.Math.Decide.{ℕ_discrete}
use Rattle.std.proofs.Math.ListN.{length}
use Rattle.plan.specs.declared.Refusal.{Refusal}
use Rattle.plan.specs.Lists.{mem}
use Rattle.plan.specs.Plan.{parent, kind}
use Rattle.plan.specs.Kinds.{known}
use Rattle.plan.specs.Questions.{Call, Given, Question, parent_lower, kind_known, box_sized, children_allowed, level_low, rows_few, coordinates_near, cell_finished, Step, once, each, number, sequence, kept, puts, lent, widest_in, lower, finished_at, holds, none, asked, or_else, at_each, ask, ask_all, take_step, take_steps, refusal}
use Rattle.plan.proofs.Laws.Questions.{first-none, first_some, each_same}
use Rattle.plan.specs.Steps.{cell_refusal, cells_refusal, children_refusal, levels_refusal, rows_refusal, tree_refusal, table_refusal, near_refusal}

-- ---- refusals in turn
-- the last question
pub asked_last : (n : ℕ) (b : Bool) (c : ℕ) → or_else (asked (suc n) b c) none ≡ asked (suc n) b c
unfolding asked
asked_last n true c = first-none none none refl
asked_last n false c = first_some (record { number = suc n; cell = c }) none (omega arith)

pub asked_true : (n c : ℕ) → asked (suc n) true c ≡ none
unfolding asked
asked_true n c = refl

pub and_true : (b : Bool) → b && true ≡ b
and_true true = refl
and_true false = refl

pub or_assoc : (a b c : Refusal) → or_else (or_else a b) c ≡ or_else a (or_else b c)
or_assoc a b c = go (ℕ_discrete a.number 0)
  where
    go : Dec (a.number ≡ 0) → or_else (or_else a b) c ≡ or_else a (or_else b c)
    go (yes z) = rw (first-none a b z, first-none a (or_else b c) z)
    go (no z) = rw (first_some a b z, first_some a c z, first_some a (or_else b c) z)

pub none_first : (r : Refusal) → or_else none r ≡ r
none_first r = first-none none r refl

pub each-nothing : (f : ℕ → Refusal) (k d : ℕ) → ((c : ℕ) → f c ≡ none) → at_each f k d ≡ none
unfolding at_each
each-nothing f k zero h = refl
each-nothing f k (suc d) h = cc (h k, each-nothing f (suc k) d h, none_first none)

pub each_last : (f : ℕ → Refusal) (k d : ℕ) → ((c : ℕ) → or_else (f c) none ≡ f c) → or_else (at_each f k d) none ≡ at_each f k d
unfolding at_each
each_last f k zero h = none_first none
each_last f k (suc d) h = go (ℕ_discrete (f k).number 0) (each_last f (suc k) d h)
  where
    go : Dec ((f k).number ≡ 0) → or_else (at_each f (suc k) d) none ≡ at_each f (suc k) d → or_else (or_else (f k) (at_each f (suc k) d)) none ≡ or_else (f k) (at_each f (suc k) d)
    go (yes z) g = rw (first-none (f k) (at_each f (suc k) d) z) g
    go (no z) g = rw (first_some (f k) (at_each f (suc k) d) z) (h k)

-- ---- THE LAW: a call's refusal is that of what it puts, in turn
pub refusal-kept : (call : Call) (g : Given) → refusal call g ≡ take_steps g (kept call sequence)
unfolding refusal
refusal-kept call g = refl

-- a question that is put once
pub kept-once : (call : Call) (g : Given) (q : Question) (ss : List Step)
    → take_steps g (kept call (once q ∷ ss)) ≡ or_else (cond (mem (number q) (puts call)) (ask g q 0) none) (take_steps g (kept call ss))
unfolding kept take_steps take_step
kept-once call g q ss = go (mem (number q) (puts call))
  where
    go : (b : Bool) → take_steps g (cond b (once q ∷ kept call ss) (kept call ss)) ≡ or_else (cond b (ask g q 0) none) (take_steps g (kept call ss))
    go true = refl
    go false = sym (none_first _)

module _ (g : Given) where
  -- ---- one step after another
  pub turn_ends : take_steps g [] ≡ none
  unfolding take_steps take_step
  turn_ends = refl

  pub turn_once : (q : Question) (ss : List Step) → take_steps g (once q ∷ ss) ≡ or_else (ask g q 0) (take_steps g ss)
  unfolding take_steps take_step
  turn_once q ss = refl

  -- 11 to 13
  pub turn_tree : (ss : List Step) → take_steps g (each (children_allowed ∷ []) ∷ each (level_low ∷ []) ∷ each (rows_few ∷ []) ∷ ss) ≡ or_else (tree_refusal g.table) (take_steps g ss)
  unfolding take_steps take_step ask_all ask holds number tree_refusal children_refusal levels_refusal rows_refusal
  turn_tree ss =
      let n = length g.table in
      let a = each_same (ask_all g (children_allowed ∷ [])) _ n (λ c i. asked_last 10 _ c) in
      let b = each_same (ask_all g (level_low ∷ [])) _ n (λ c i. asked_last 11 _ c) in
      let d = each_same (ask_all g (rows_few ∷ [])) _ n (λ c i. asked_last 12 _ c) in
      simp or_assoc (cc (a, b, d))

  -- 6 to 8 and 11 to 13 of a lent table
  cells_turn : g.source ≡ lent → at_each (ask_all g (parent_lower ∷ kind_known ∷ box_sized ∷ [])) 0 (length g.table) ≡ cells_refusal g.table
  unfolding ask_all ask holds widest_in number cells_refusal cell_refusal
  cells_turn l =
      rw l (each_same _ _ (length g.table) (λ c i.
      ap (λ (x : Refusal). or_else (asked 6 (lower c (parent g.table c)) c) (or_else (asked 7 (known (kind g.table c)) c) x)) (asked_last 7 _ c)))

  pub turn_table : g.source ≡ lent → (ss : List Step)
      → take_steps g (each (parent_lower ∷ kind_known ∷ box_sized ∷ []) ∷ each (children_allowed ∷ []) ∷ each (level_low ∷ []) ∷ each (rows_few ∷ []) ∷ ss) ≡ or_else (table_refusal g.table) (take_steps g ss)
  unfolding take_steps take_step table_refusal
  turn_table l ss = simp or_assoc (cc (cells_turn l, turn_tree ss))

  -- 15
  pub turn_near : (ss : List Step) → take_steps g (each (coordinates_near ∷ []) ∷ ss) ≡ or_else (near_refusal g.coordinates (length g.table)) (take_steps g ss)
  unfolding take_steps take_step ask_all near_refusal ask holds number
  turn_near ss = ap (λ (r : Refusal). or_else r (take_steps g ss)) (each_same (ask_all g (coordinates_near ∷ [])) _ (length g.table) (λ c i. asked_last 14 _ c))

  -- 20, the last
  pub turn_finished : take_steps g (each (cell_finished ∷ []) ∷ []) ≡ at_each (λ c. asked 20 (finished_at g.subject c) c) 0 (length g.table)
  unfolding take_steps take_step ask_all ask holds number
  turn_finished =
      ap (λ (r : Refusal). or_else r none) (each_same (ask_all g (cell_finished ∷ [])) _ (length g.table) (λ c i. asked_last 19 _ c))
      ∙ each_last _ 0 (length g.table) (λ c. asked_last 19 _ c)
