-- The rows of the questions' order compute; and a call is refused by a number of its row only. Assumes nothing.
use Rattle.std.specs.Prelude.{◌≡◌, Bool, not, cond, ℕ, zero, suc, length}
use Rattle.std.proofs.Math.Path.{refl}
use Rattle.std.proofs.Common.{ap, ◌∙◌, inl, inr}
use mathlib.Core.List.{List, [], ◌∷◌, ◌++◌}
use Rattle.std.proofs.Math.Bool.{true, false}
use Rattle.std.proofs.Math.Decide.{ℕ_discrete}
use Rattle.std.proofs.Math.Dec.{T}
use Rattle.plan.specs.declared.Refusal.{Refusal}
use Rattle.plan.specs.Lists.{from, some, mem}
use Rattle.plan.specs.Questions.{Buffer, Lent, absent, long, Given, Question, buffers_long, positions_long, number, Step, once, each, sequence, Call, puts, put, with_each, kept, all_roomy, enough, holds, none, asked, or_else, at_each, ask, ask_all, take_step, take_steps, refusal, layout_given, check_given, ends_given, list_given, frame_given, copy_given, stroke_given, strip_given, drill_given, start_given, step_given, reach_given, mark_given}
use Rattle.plan.specs.Order.{some_buffer, has_positions, concerns, number_in, numbers, in_order, asks, cell_by_cell, Rows}
use Rattle.plan.proofs.Laws.Questions.{first-none, first_some}
use Rattle.plan.proofs.Laws.Lists.{mem-here, mem-none, mem_there, mem_cases}

pub rows : Rows
unfolding asks in_order numbers number_in concerns some_buffer has_positions cell_by_cell kept put with_each sequence number puts mem some from layout_given check_given ends_given list_given frame_given copy_given stroke_given strip_given drill_given start_given step_given reach_given mark_given
rows =
    record {
      of_read = λ g m b p. rw (b, p);
      of_label = λ g. refl;
      of_layout = λ t al s p. refl;
      of_check = λ t al ps. refl;
      of_ends = λ t ps c. refl;
      of_list = λ o. refl;
      of_frame = λ t f s. refl;
      of_copy = λ t ls letters al o. refl;
      of_mend = λ g o l b p. rw (b, p);
      of_stroke = λ t ps page s. refl;
      of_strip = λ t ps. refl;
      of_drill = λ t a l. refl;
      of_start = λ t al s m. refl;
      of_step = λ t al s m p. refl;
      of_reach = λ t al s m finished c. refl;
      of_report = λ g m s p b e. rw (b, e);
      of_mark = λ t ps al s. refl;
      by_cell = λ g. refl;
      by_cell_lent = λ g. refl;
    }

-- ---- a refusal's number stands in the row
-- a question 1 of nothing is answered yes
of_no_buffer : (bs : List Buffer) → T (not (some_buffer bs)) → T (all_roomy bs)
unfolding some_buffer all_roomy
of_no_buffer [] h = tt
of_no_buffer (_ ∷ _) h = elim h [ ]

of_no_positions : (p : Lent) (n : ℕ) → T (not (has_positions p)) → T (enough p n)
unfolding has_positions enough
of_no_positions absent n h = tt
of_no_positions (long _) n h = elim h [ ]

of-nothing : (g : Given) (q : Question) (c : ℕ) → T (not (concerns g q)) → T (holds g q c)
unfolding concerns holds
of-nothing g buffers_long c h = of_no_buffer g.buffers h
of-nothing g positions_long c h = of_no_positions g.positions _ h
of-nothing g _ c h = elim h [ ]

-- the numbers of refusals, but for 0
either_number : (P : ℕ → Type 0) (a b : Refusal) → (¬ (a.number ≡ 0) → P a.number) → (¬ (b.number ≡ 0) → P b.number) → ¬ ((or_else a b).number ≡ 0) → P (or_else a b).number
either_number P a b p q n = go (ℕ_discrete a.number 0)
  where
    go : Dec (a.number ≡ 0) → P (or_else a b).number
    go (yes z) = let e = ap (λ (r : Refusal). r.number) (first-none a b z) in rw e (q (λ y. n (e ∙ y)))
    go (no z) = rw (first_some a b z) (p z)

mem-left : (a : ℕ) (l m : List ℕ) → T (mem a l) → T (mem a (l ++ m))
mem-left a [] m h = absurd (mem-none a h)
mem-left a (b ∷ l) m h = elim (mem_cases a b l h) [ inl e ↦ mem-here a b (l ++ m) e | inr k ↦ mem_there a b (l ++ m) (mem-left a l m k) ]

mem-right : (a : ℕ) (l m : List ℕ) → T (mem a m) → T (mem a (l ++ m))
mem-right a [] m h = h
mem-right a (b ∷ l) m h = mem_there a b (l ++ m) (mem-right a l m h)

abbrev In : Refusal → List ℕ → Type 0
In r l = ¬ (r.number ≡ 0) → T (mem r.number l)

both_in : (a b : Refusal) (l m : List ℕ) → In a l → In b m → In (or_else a b) (l ++ m)
both_in a b l m p q = either_number (λ k. T (mem k (l ++ m))) a b (λ n. mem-left a.number l m (p n)) (λ n. mem-right b.number l m (q n))

each_in : (f : ℕ → Refusal) (l : List ℕ) → ((c : ℕ) → In (f c) l) → (k d : ℕ) → In (at_each f k d) l
unfolding at_each
each_in f l h k zero = λ n. absurd (n refl)
each_in f l h k (suc d) = either_number (λ i. T (mem i l)) (f k) (at_each f (suc k) d) (h k) (each_in f l h (suc k) d)

module _ (g : Given) where
  ask_in : (q : Question) (c : ℕ) → In (ask g q c) (number_in g q)
  unfolding ask asked number_in
  ask_in q c = go (holds g q c) (concerns g q) (of-nothing g q c)
    where
      go : (b d : Bool) → (T (not d) → T b) → In (cond b none (record { number = number q; cell = c })) (cond d (number q ∷ []) [])
      go true d h n = absurd (n refl)
      go false true h n = mem-here (number q) (number q) [] refl
      go false false h n = absurd (h tt)

  all_in : (qs : List Question) (c : ℕ) → In (ask_all g qs c) (numbers g qs)
  unfolding ask_all numbers
  all_in [] c = λ n. absurd (n refl)
  all_in (q ∷ qs) c = both_in (ask g q c) (ask_all g qs c) (number_in g q) (numbers g qs) (ask_in q c) (all_in qs c)

  steps_in : (ss : List Step) → In (take_steps g ss) (in_order g ss)
  unfolding take_steps take_step in_order
  steps_in [] = λ n. absurd (n refl)
  steps_in (once q ∷ ss) = both_in (ask g q 0) (take_steps g ss) (number_in g q) (in_order g ss) (ask_in q 0) (steps_in ss)
  steps_in (each qs ∷ ss) =
      both_in (at_each (ask_all g qs) 0 (length g.table)) (take_steps g ss) (numbers g qs) (in_order g ss) (each_in (ask_all g qs) (numbers g qs) (all_in qs) 0 (length g.table)) (steps_in ss)

pub refused_in_row : (call : Call) (g : Given) → ¬ ((refusal call g).number ≡ 0) → T (mem (refusal call g).number (asks call g))
unfolding refusal asks
refused_in_row call g = steps_in g (kept call sequence)
