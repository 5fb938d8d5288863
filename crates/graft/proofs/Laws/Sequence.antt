-- The questions of a join, as its code puts them, and what they establish. Assumes nothing.
use Rattle.std.specs.Prelude.{◌≡◌, [], ◌∷◌, ℕ, ◌+◌, ◌≤◌, T, leb, ltb, length}
use Rattle.std.proofs.Math.Path.{refl, ap}
use Rattle.std.proofs.Common.{sym, ◌∙◌}
use Rattle.std.proofs.Math.Dec.{leb→le, ltb→lt}
use Rattle.plan.specs.Limits.{most_cells, most_width, most_level, last_row}
use Rattle.plan.specs.Kinds.{known, allows}
use Rattle.plan.specs.Plan.{Table, Is, parent, kind, box_width, box_depth, children, level, row}
use Rattle.plan.specs.Questions as asked
use Rattle.plan.specs.Questions.{once, each, buffers_long, cells_counted, parent_lower, kind_known, box_sized, children_allowed, level_low, rows_few, cell_named, lower, none, or_else, take_step, number, holds}
use Rattle.plan.proofs.Laws.Questions.{asked_yes, both-none, each_none, each_same}
use Rattle.plan.proofs.Laws.Kept.{asked_last, and_true, or_assoc, each_last}
use Rattle.plan.specs.Steps.{cell_refusal, cells_refusal, children_refusal, levels_refusal, rows_refusal, tree_refusal}
use Rattle.plan.proofs.Laws.Steps.{Passed, cell-passed, counted-read}
use Rattle.plan.specs.declared.Refusal.{Refusal}
use Rattle.graft.specs.Joined.{joined}
use Rattle.graft.specs.Sequence.{Whose, first, second, both, of, join_sequence, table_asked, join_given, ask_one, ask_all, join_refusal, counted, part_refusal}

module _ (room : ℕ) (t u : Table) (c : ℕ) where
  -- ---- each step
  ask-room : ask_one room t u c (of first (once buffers_long)) ≡ asked.asked 1 (leb most_cells room) 0
  unfolding ask_one take_step asked.ask_all asked.ask number holds join_given asked.all_roomy asked.roomy
  ask-room = rw and_true

  ask-count : (w : Whose) → ask_one room t u c (of w (once cells_counted)) ≡ counted (length (table_asked room t u c w))
  unfolding ask_one take_step asked.ask_all asked.ask number holds join_given asked.in_file
  ask-count w = rw and_true

  ask-cells : (w : Whose) → ask_one room t u c (of w (each (parent_lower ∷ kind_known ∷ box_sized ∷ []))) ≡ cells_refusal (table_asked room t u c w)
  unfolding ask_one take_step asked.ask_all asked.ask number holds join_given asked.widest_in cells_refusal cell_refusal
  ask-cells w =
      let v = table_asked room t u c w in
      each_same _ _ (length v) (λ a i. ap (λ (x : Refusal). or_else (asked.asked 6 (lower a (parent v a)) a) (or_else (asked.asked 7 (known (kind v a)) a) x)) (asked_last 7 _ a))

  ask-named : ask_one room t u c (of first (once cell_named)) ≡ asked.asked 16 (ltb c (length t)) 0
  unfolding ask_one take_step asked.ask_all asked.ask number holds join_given table_asked asked.in_table
  ask-named = refl

  ask-children : (w : Whose) → ask_one room t u c (of w (each (children_allowed ∷ []))) ≡ children_refusal (table_asked room t u c w)
  unfolding ask_one take_step asked.ask_all asked.ask number holds join_given children_refusal
  ask-children w = each_same _ _ (length (table_asked room t u c w)) (λ a i. asked_last 10 _ a)

  ask_levels : (w : Whose) → ask_one room t u c (of w (each (level_low ∷ []))) ≡ levels_refusal (table_asked room t u c w)
  unfolding ask_one take_step asked.ask_all asked.ask number holds join_given levels_refusal
  ask_levels w = each_same _ _ (length (table_asked room t u c w)) (λ a i. asked_last 11 _ a)

  ask-rows : (w : Whose) → ask_one room t u c (of w (each (rows_few ∷ []))) ≡ rows_refusal (table_asked room t u c w)
  unfolding ask_one take_step asked.ask_all asked.ask number holds join_given rows_refusal
  ask-rows w = each_same _ _ (length (table_asked room t u c w)) (λ a i. asked_last 12 _ a)

  rows_last : (v : Table) → or_else (rows_refusal v) none ≡ rows_refusal v
  unfolding rows_refusal
  rows_last v = each_last _ 0 (length v) (λ a. asked_last 12 _ a)

  -- ---- THE sequence, as the code puts it
  pub join-puts : join_refusal room t u c
      ≡ or_else (asked.asked 1 (leb most_cells room) 0)
      (or_else (part_refusal t) (or_else (part_refusal u) (or_else (asked.asked 16 (ltb c (length t)) 0) (or_else (counted (length (joined t u c))) (tree_refusal (joined t u c))))))
  unfolding join_refusal ask_all join_sequence table_asked tree_refusal
  join-puts =
      rw (ask-room, ask-count first, ask-cells first, ask-count second, ask-cells second, ask-named, ask-count both, ask-children both, ask_levels both, ask-rows both, rows_last (joined t u c))
      (simp or_assoc)

-- ---- what they establish, where none is answered no
pub record Accepted (room : ℕ) (t u : Table) (c : ℕ) : Type 0 where
  pub room_enough : most_cells ≤ room
  pub some_first : 1 ≤ length t
  pub few_first : length t ≤ most_cells
  pub first_cells : (a : ℕ) → Is t a → Passed most_width a (parent t a) (kind t a) (box_width t a) (box_depth t a)
  pub some_second : 1 ≤ length u
  pub few_second : length u ≤ most_cells
  pub second_cells : (a : ℕ) → Is u a → Passed most_width a (parent u a) (kind u a) (box_width u a) (box_depth u a)
  pub named : Is t c
  pub few : length (joined t u c) ≤ most_cells
  pub family : (a : ℕ) → Is (joined t u c) a → T (allows (kind (joined t u c) a) (length (children (joined t u c) a)))
  pub not_too_low : (a : ℕ) → Is (joined t u c) a → level (joined t u c) a ≤ most_level
  pub rows_few : (a : ℕ) → Is (joined t u c) a → row (joined t u c) a + box_depth (joined t u c) a ≤ last_row

cells-passed : (t : Table) → (cells_refusal t).number ≡ 0 → (a : ℕ) → Is t a → Passed most_width a (parent t a) (kind t a) (box_width t a) (box_depth t a)
unfolding cells_refusal
cells-passed t e a i = cell-passed most_width a _ _ _ _ (each_none (λ c. cell_refusal most_width c (parent t c) (kind t c) (box_width t c) (box_depth t c)) (length t) e a i)

module _ (room : ℕ) (t u : Table) (c : ℕ) where
  pub accepted : (join_refusal room t u c).number ≡ 0 → Accepted room t u c
  unfolding tree_refusal children_refusal levels_refusal rows_refusal
  accepted z =
      let J = joined t u c in
      let (one, r1) = both-none (asked.asked 1 (leb most_cells room) 0) _ (ap (λ (x : Refusal). x.number) (sym (join-puts room t u c)) ∙ z) in
      let (p, r2) = both-none (part_refusal t) _ r1 in
      let (q, r3) = both-none (part_refusal u) _ r2 in
      let (named, r4) = both-none (asked.asked 16 (ltb c (length t)) 0) _ r3 in
      let (few, r5) = both-none (counted (length J)) _ r4 in
      let (families, r6) = both-none (children_refusal J) _ r5 in
      let (levels, rows) = both-none (levels_refusal J) (rows_refusal J) r6 in
      let (pn, pc) = both-none (counted (length t)) (cells_refusal t) p in
      let (qn, qc) = both-none (counted (length u)) (cells_refusal u) q in
      record {
        room_enough = leb→le most_cells room (asked_yes 0 _ 0 one);
        some_first = (counted-read (length t) _ refl pn).0;
        few_first = (counted-read (length t) _ refl pn).1;
        first_cells = cells-passed t pc;
        some_second = (counted-read (length u) _ refl qn).0;
        few_second = (counted-read (length u) _ refl qn).1;
        second_cells = cells-passed u qc;
        named = ltb→lt c (length t) (asked_yes 15 _ 0 named);
        few = (counted-read (length J) _ refl few).1;
        family = λ a i. asked_yes 10 _ a (each_none (λ a. asked.asked 11 (allows (kind J a) (length (children J a))) a) (length J) families a i);
        not_too_low = λ a i. leb→le _ _ (asked_yes 11 _ a (each_none (λ a. asked.asked 12 (leb (level J a) most_level) a) (length J) levels a i));
        rows_few = λ a i. leb→le _ _ (asked_yes 12 _ a (each_none (λ a. asked.asked 13 (leb (row J a + box_depth J a) last_row) a) (length J) rows a i));
      }
