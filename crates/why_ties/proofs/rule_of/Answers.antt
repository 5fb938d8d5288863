use Rattle.why_ties.proofs.Chains.{is2, is3_ends, is3_starts, is4_box, is4_stem, is5, is0}
use mathlib.Core.Path.{◌∙◌, sym}
use Rattle.why_ties.proofs.rule_of.Goals as goal

pub returns-then-tied2 : goal.returns-then-tied2
returns-then-tied2 c = is2 _ _ _ _ _ (sym c.tied2.ensures ∙ c.if-tied2.true)

pub returns-then-tied3_ends : goal.returns-then-tied3_ends
returns-then-tied3_ends c = is3_ends _ _ _ _ _ (sym c.tied2.ensures ∙ c.if-tied2.false) (sym c.tied3_ends.ensures ∙ c.if-tied3_ends.true)

pub returns-then-tied3_starts : goal.returns-then-tied3_starts
returns-then-tied3_starts c = is3_starts _ _ _ _ _ (sym c.tied2.ensures ∙ c.if-tied2.false) (sym c.tied3_ends.ensures ∙ c.if-tied3_ends.false) (sym c.tied3_starts.ensures ∙ c.if-tied3_starts.true)

pub returns-then-tied4_box : goal.returns-then-tied4_box
returns-then-tied4_box c = is4_box _ _ _ _ _ (sym c.tied2.ensures ∙ c.if-tied2.false) (sym c.tied3_ends.ensures ∙ c.if-tied3_ends.false) (sym c.tied3_starts.ensures ∙ c.if-tied3_starts.false) (sym c.tied4_box.ensures ∙ c.if-tied4_box.true)

pub returns-then-tied4_stem : goal.returns-then-tied4_stem
returns-then-tied4_stem c = is4_stem _ _ _ _ _ (sym c.tied2.ensures ∙ c.if-tied2.false) (sym c.tied3_ends.ensures ∙ c.if-tied3_ends.false) (sym c.tied3_starts.ensures ∙ c.if-tied3_starts.false) (sym c.tied4_box.ensures ∙ c.if-tied4_box.false) (sym c.tied4_stem.ensures ∙ c.if-tied4_stem.true)

pub returns-then-tied5 : goal.returns-then-tied5
returns-then-tied5 c = is5 _ _ _ _ _ (sym c.tied2.ensures ∙ c.if-tied2.false) (sym c.tied3_ends.ensures ∙ c.if-tied3_ends.false) (sym c.tied3_starts.ensures ∙ c.if-tied3_starts.false) (sym c.tied4_box.ensures ∙ c.if-tied4_box.false) (sym c.tied4_stem.ensures ∙ c.if-tied4_stem.false) (sym c.tied5.ensures ∙ c.if-tied5.true)

pub returns : goal.returns
returns c = is0 _ _ _ _ _ (sym c.tied2.ensures ∙ c.if-tied2.false) (sym c.tied3_ends.ensures ∙ c.if-tied3_ends.false) (sym c.tied3_starts.ensures ∙ c.if-tied3_starts.false) (sym c.tied4_box.ensures ∙ c.if-tied4_box.false) (sym c.tied4_stem.ensures ∙ c.if-tied4_stem.false) (sym c.tied5.ensures ∙ c.if-tied5.false)
