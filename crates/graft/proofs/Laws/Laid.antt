-- Where a join is accepted, the second plan and the joined one have sheets: Layout refuses nothing of them. Assumes nothing.
use Rattle.std.specs.Prelude.{◌≡◌, ℕ, ◌+◌, ◌-◌, ◌*◌, ◌≤◌, ◌<◌, T, length}
use Rattle.std.proofs.Common.{◌∙◌, arith, eqb→eq}
use Rattle.std.proofs.Math.Decide.{dec_lt}
use Rattle.std.proofs.lemmas.List.{length-map}
use Rattle.plan.specs.Limits.{most_width, most_depth, most_allowance, scratch_size, no_parent}
use Rattle.plan.specs.Plan.{Table, Is, Sound, parent, kind, box_width, box_depth, children}
use Rattle.plan.specs.Kinds.{allows}
use Rattle.plan.specs.Questions.{layout, lower, none, refusal, layout_given}
use Rattle.plan.proofs.Laws.Steps.{Passed, lower-read, sized-wide, sized-deep}
use Rattle.least.specs.Demanded.{Asked}
use Rattle.least.proofs.Asked.{layout-asks}
use Rattle.graft.specs.Joined.{joined}
use Rattle.graft.proofs.Laws.Joined.{length-joined, first-parent, first_width, first_depth, second-kind, second-width, second_depth, second-children, joined-sound}
use Rattle.graft.proofs.Laws.Paths.{second-level, second-row}
use Rattle.graft.proofs.Laws.Sequence.{Accepted}

-- ---- what 6 to 8 establish of a table
module _ (t : Table) (h : (a : ℕ) → Is t a → Passed most_width a (parent t a) (kind t a) (box_width t a) (box_depth t a)) where
  pub passed-sound : Sound t
  passed-sound a l i = lower-read a (parent t a) l (h a i).is_lower

  pub passed-wide : (a : ℕ) → Is t a → (1 ≤ box_width t a) × (box_width t a ≤ most_width)
  passed-wide a i = sized-wide most_width (box_width t a) (box_depth t a) (h a i).is_sized

  pub passed_deep : (a : ℕ) → Is t a → (1 ≤ box_depth t a) × (box_depth t a ≤ most_depth)
  passed_deep a i = sized-deep most_width (box_width t a) (box_depth t a) (h a i).is_sized

  pub passed_root : 1 ≤ length t → parent t 0 ≡ no_parent
  passed_root l = eqb→eq (parent t 0) no_parent (unfold lower in (h 0 l).is_lower)

module _ (room : ℕ) (t u : Table) (c : ℕ) (g : Accepted room t u c) where
  abbrev J : Table
  J = joined t u c

  pub first_sound : Sound t
  first_sound = passed-sound t g.first_cells

  pub second_sound : Sound u
  second_sound = passed-sound u g.second_cells

  there : (b : ℕ) → Is u b → Is J (length t + b)
  there b i = omega (arith, length-joined t u c)

  -- ---- the second plan
  second-asked : Asked u
  second-asked =
      record {
        fit = record {
          some_cell = g.some_second;
          not_too_many = g.few_second;
          sound = second_sound;
          wide = passed-wide u g.second_cells;
          deep = passed_deep u g.second_cells;
          family = λ b i. family b i;
          not_too_low = λ b i. omega (arith, g.not_too_low (length t + b) (there b i), second-level t u first_sound second_sound g.some_first g.some_second c g.named b i);
          rows_few = λ b i. omega (arith, g.rows_few (length t + b) (there b i), second-row t u first_sound second_sound g.some_first g.some_second c g.named b i, second_depth t u c b i);
        };
        root = passed_root u g.second_cells g.some_second;
      }
    where
      family : (b : ℕ) → Is u b → T (allows (kind u b) (length (children u b)))
      family b i =
          rw (second-kind t u c b i, second-children t u first_sound g.some_first g.some_second c g.named b i, length-map (children u b) (λ s. length t + s)) at (g.family (length t + b) (there b i))

  pub second_laid : (al s p : ℕ) → al ≤ most_allowance → scratch_size ≤ s → 2 * length u ≤ p → refusal layout (layout_given u al s p) ≡ none
  second_laid al s p a b d = (layout-asks u al s p).1 (record { table = second-asked; allowance = a; scratch = b; positions = d })

  -- ---- the joined one: each cell is one of the first, or one of the second
  either : (P : ℕ → Type 0) → ((a : ℕ) → Is t a → P a) → ((b : ℕ) → Is u b → P (length t + b)) → (a : ℕ) → Is J a → P a
  either P f s a i = go (dec_lt a (length t))
    where
      go : Dec (a < length t) → P a
      go (yes l) = f a l
      go (no l) = let e : length t + (a - length t) ≡ a = omega arith in rw e at (s (a - length t) (omega (arith, length-joined t u c)))

  joined-asked : Asked J
  joined-asked =
      record {
        fit = record {
          some_cell = omega (arith, length-joined t u c, g.some_first);
          not_too_many = g.few;
          sound = joined-sound t u first_sound g.some_first g.some_second c g.named second_sound;
          wide = either (λ a. (1 ≤ box_width J a) × (box_width J a ≤ most_width)) (λ a i. rw (first_width t u c a i) (passed-wide t g.first_cells a i)) (λ b i. rw (second-width t u c b i) (passed-wide u g.second_cells b i));
          deep = either (λ a. (1 ≤ box_depth J a) × (box_depth J a ≤ most_depth)) (λ a i. rw (first_depth t u c a i) (passed_deep t g.first_cells a i)) (λ b i. rw (second_depth t u c b i) (passed_deep u g.second_cells b i));
          family = g.family;
          not_too_low = g.not_too_low;
          rows_few = g.rows_few;
        };
        root = first-parent t u c 0 g.some_first ∙ passed_root t g.first_cells g.some_first;
      }

  pub joined_laid : (al s p : ℕ) → al ≤ most_allowance → scratch_size ≤ s → 2 * length J ≤ p → refusal layout (layout_given J al s p) ≡ none
  joined_laid al s p a b d = (layout-asks J al s p).1 (record { table = joined-asked; allowance = a; scratch = b; positions = d })
