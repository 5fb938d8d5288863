-- What "refuses nothing" says, question by question, of Layout and of Check: the proofs behind proofs/Asked.antt. Nothing that a reader must believe stands here. Assumes nothing.
use Rattle.std.specs.Prelude.{◌≡◌, refl, List, [], ◌∷◌, Bool, true, false, ◌↔◌, ℕ, zero, suc, ◌+◌, ◌*◌, ◌≤◌, length, get_or, T, ℤ, pos}
use Rattle.std.proofs.Common.{arith, lt→ltb}
use Rattle.whole.specs.Says.{Says}
use Rattle.whole.proofs.Laws.Says.{that_is, both, says_le, says_eq, itself}
use Rattle.whole.proofs.Laws.Range.{says_within}
use Rattle.plan.specs.Lists.{mem, some}
use Rattle.plan.specs.Limits.{between, most_cells, most_width, most_depth, scratch_size, farthest}
use Rattle.plan.specs.Plan.{Table, Is, parent, kind, box_width, box_depth}
use Rattle.plan.specs.Kinds.{about, known, allows}
use Rattle.plan.proofs.Laws.Steps.{lower-read}
use Rattle.plan.specs.Questions as asked
use Rattle.plan.specs.Questions.{scratch, lent, Given, cells_counted, parent_lower, kind_known, box_sized, children_allowed, level_low, rows_few, coordinates_near, layout, check, number, puts, put, with_each, kept, sequence, roomy, all_roomy, enough, in_file, lower, sized, near, none, refusal, layout_given, check_given}
use Rattle.std.specs.Prelude.{Option}
use Rattle.plan.specs.declared.kinds.Kind.{Kind}
use Rattle.std.specs.Prelude.{Some, None}
use Rattle.rules.specs.Placement.{Inside}
use Rattle.least.specs.Refusals.{Yes, YesSteps}
use Rattle.least.proofs.Laws.Refusals.{refusal-none}
use Rattle.least.specs.Demanded.{Asked, LayoutAsked, CheckAsked}

-- ---- single questions
says_between : (low high n : ℕ) → Says (between low high n) ((low ≤ n) × (n ≤ high))
says_between low high n = both (says_le low n) (says_le n high)

pub says_near : (z : ℤ) → Says (near z) (Inside z)
unfolding near
says_near z = says_within farthest z

-- a kind that allows some number of children is known
allows-known : (k n : ℕ) → T (allows k n) → T (known k)
unfolding allows known
allows-known k n h = go (about k) h
  where
    go : (l : Option Kind) → T (elim l as (λ _. Bool) [ Some r ↦ between r.fewest r.most n | None ↦ false ]) → T (elim l as (λ _. Bool) [ Some r ↦ true | None ↦ false ])
    go (Some r) h = tt
    go None h = h

lower_show : (t : Table) → Asked t → (c : ℕ) → Is t c → T (lower c (parent t c))
unfolding lower
lower_show t a zero i = (says_eq _ _).show a.root
lower_show t a (suc m) i = lt→ltb _ _ (a.fit.sound (suc m) (omega arith) i)

-- ---- the questions of a call on a lent table
infixr 3 ◌and◌
◌and◌ : {P Q : Type 0} → P → Q → P × Q
◌and◌ p q = (p, q)

module _ (g : Given) (l : g.source ≡ lent) where
  abbrev t : Table
  t = g.table

  says_inside : (c : ℕ) → Says (asked.holds g coordinates_near c) (Inside (get_or g.coordinates (2 * c) (pos 0)) × Inside (get_or g.coordinates (2 * c + 1) (pos 0)))
  unfolding asked.holds
  says_inside c = both (says_near _) (says_near _)

  says_counted : Says (asked.holds g cells_counted 0) ((1 ≤ length t) × (length t ≤ most_cells))
  unfolding asked.holds in_file
  says_counted = rw l (that_is (both (says_between 1 most_cells (length t)) (itself true)) (λ h. h.0) (λ h. (h, tt)))

  says_sized : (c : ℕ) → Says (asked.holds g box_sized c) (((1 ≤ box_width t c) × (box_width t c ≤ most_width)) × ((1 ≤ box_depth t c) × (box_depth t c ≤ most_depth)))
  unfolding asked.holds asked.widest_in sized
  says_sized c = rw l (both (says_between 1 most_width (box_width t c)) (says_between 1 most_depth (box_depth t c)))

  -- 4, 6 to 8 and 11 to 13, each answered yes
  record Fine : Type 0 where
    count : T (asked.holds g cells_counted 0)
    records : (c : ℕ) → Is t c → Yes g (parent_lower ∷ kind_known ∷ box_sized ∷ []) c
    families : (c : ℕ) → Is t c → Yes g (children_allowed ∷ []) c
    levels : (c : ℕ) → Is t c → Yes g (level_low ∷ []) c
    rows : (c : ℕ) → Is t c → Yes g (rows_few ∷ []) c

  fine-read : Fine → Asked t
  unfolding asked.holds
  fine-read y =
      let count = says_counted.read y.count in
      record {
        fit = record {
          some_cell = count.0;
          not_too_many = count.1;
          sound = λ c h i. lower-read c (parent t c) h (y.records c i).0;
          wide = λ c i. ((says_sized c).read (y.records c i).1.1.0).0;
          deep = λ c i. ((says_sized c).read (y.records c i).1.1.0).1;
          family = λ c i. (y.families c i).0;
          not_too_low = λ c i. (says_le _ _).read (y.levels c i).0;
          rows_few = λ c i. (says_le _ _).read (y.rows c i).0;
        };
        root = (says_eq _ _).read (unfold lower in (y.records 0 count.0).0);
      }

  fine_show : Asked t → Fine
  unfolding asked.holds
  fine_show a =
      let f = a.fit in
      record {
        count = says_counted.show (f.some_cell, f.not_too_many);
        records = λ c i. lower_show t a c i and allows-known (kind t c) _ (f.family c i) and (says_sized c).show (f.wide c i, f.deep c i) and tt;
        families = λ c i. f.family c i and tt;
        levels = λ c i. (says_le _ _).show (f.not_too_low c i) and tt;
        rows = λ c i. (says_le _ _).show (f.rows_few c i) and tt;
      }

says_roomy : (s : ℕ) → Says (all_roomy (scratch s ∷ [])) (scratch_size ≤ s)
unfolding all_roomy roomy
says_roomy s = that_is (both (says_le scratch_size s) (itself true)) (λ h. h.0) (λ h. (h, tt))

pub layout-asks : (t : Table) (al s p : ℕ) → (refusal layout (layout_given t al s p) ≡ none) ↔ LayoutAsked t al s p
unfolding layout_given kept put with_each sequence number puts mem some enough asked.holds
layout-asks t al s p = (λ e. there ((refusal-none layout g).0 e), λ a. (refusal-none layout g).1 (back a))
  where
    g : Given
    g = layout_given t al s p

    there : YesSteps g (kept layout sequence) → LayoutAsked t al s p
    there (room, (count, (long, (records, (families, (levels, (rows, (allowance, end)))))))) =
        record {
          table = fine-read g refl (record { count = count; records = records; families = families; levels = levels; rows = rows });
          allowance = (says_le _ _).read allowance;
          scratch = (says_roomy s).read room;
          positions = (says_le _ _).read long;
        }

    back : LayoutAsked t al s p → YesSteps g (kept layout sequence)
    back a =
        let f = fine_show g refl a.table in
        (says_roomy s).show a.scratch and f.count and (says_le _ _).show a.positions and f.records and f.families and f.levels and f.rows and (says_le _ _).show a.allowance and tt

pub check-asks : (t : Table) (al : ℕ) (ps : List ℤ) → (refusal check (check_given t al ps) ≡ none) ↔ CheckAsked t al ps
unfolding check_given kept put with_each sequence number puts mem some all_roomy enough asked.holds
check-asks t al ps = (λ e. there ((refusal-none check g).0 e), λ a. (refusal-none check g).1 (back a))
  where
    g : Given
    g = check_given t al ps

    there : YesSteps g (kept check sequence) → CheckAsked t al ps
    there (room, (count, (long, (records, (families, (levels, (rows, (allowance, (near_all, end))))))))) =
        record {
          table = fine-read g refl (record { count = count; records = records; families = families; levels = levels; rows = rows });
          allowance = (says_le _ _).read allowance;
          positions = (says_le _ _).read long;
          near_all = λ c i. (says_inside g refl c).read (near_all c i).0;
        }

    back : CheckAsked t al ps → YesSteps g (kept check sequence)
    back a =
        let f = fine_show g refl a.table in
        tt and f.count and (says_le _ _).show a.positions and f.records and f.families and f.levels and f.rows and (says_le _ _).show a.allowance and (λ c i. (says_inside g refl c).show (a.near_all c i) and tt) and tt
