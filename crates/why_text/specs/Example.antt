-- What is printed of the printed example of document 01, and of a file of 15 bytes: computed. Assumes nothing.
use Rattle.std.specs.Prelude.{◌≡◌, refl, [], ◌∷◌}
use Rattle.whole.specs.Says.{eq_z}
use Rattle.plan.specs.Lists as lists
use Rattle.plan.specs.Plan as plan
use Rattle.plan.specs.Forms as forms
use Rattle.plan.specs.Kinds as kinds
use Rattle.plan.specs.Records as records
use Rattle.plan.specs.Columns as columns
use Rattle.plan.specs.Questions as asked
use Rattle.plan.specs.Questions.{refusal}
use Rattle.rules.specs.Placement as placement
use Rattle.rules.specs.Tests.{flush, after_one, before_one}
use Rattle.contours.specs.Contour as contour
use Rattle.contours.specs.Sheet as ours
use Rattle.planfile_spec.specs.Fields as fields
use Rattle.planfile_spec.specs.Format as format
use Rattle.planfile_spec.specs.Reading as reading
use Rattle.listing.specs.Printed as printed
use Rattle.printing.specs.Example.{example}
use Rattle.why_spec.specs.Measures as measures
use Rattle.why_spec.specs.Links as links
use Rattle.why_spec.specs.Search as search
use Rattle.why_lines.specs.Printed as shown
use Rattle.why_text.specs.Text.{sheet_reason, why_lines, why_text}

-- `why 3 0 9 1`, `1 2 S3 4 4`, `2 W 5 9`
pub printed-reason : why_text example ≡ 119 ∷ 104 ∷ 121 ∷ 32 ∷ 51 ∷ 32 ∷ 48 ∷ 32 ∷ 57 ∷ 32 ∷ 49 ∷ 10 ∷ 49 ∷ 32 ∷ 50 ∷ 32 ∷ 83 ∷ 51 ∷ 32 ∷ 52 ∷ 32 ∷ 52 ∷ 10 ∷ 50 ∷ 32 ∷ 87 ∷ 32 ∷ 53 ∷ 32 ∷ 57 ∷ 10 ∷ []
unfolding example sheet_reason why_lines why_text shown.head_line shown.link_line shown.last_line shown.link_lines shown.reason_lines measures.far measures.extent measures.across links.box_meets links.stem_meets links.asks links.adds_up search.first search.tight search.tied search.link search.leads search.leftmost search.rightmost search.reached search.closes search.fewest search.final search.before search.origin search.trail search.reason flush after_one before_one eq_z lists.peak plan.dictated_bottom printed.lines_joined reading.reading_of reading.columns_of reading.column reading.label_part reading.label_refusal fields.pair fields.number_at fields.parent_place fields.kind_place fields.width_place fields.depth_place fields.length_place fields.rank_place fields.start_place fields.begin_place fields.count_place fields.allowance_place fields.mark_place format.trailer_of format.record_at format.entry format.records_of format.file_given printed.digits printed.decimal printed.signed printed.line records.bare records.cells_of columns.table asked.every asked.in_table lists.index lists.from lists.keep lists.insert lists.sort lists.some lists.mem lists.ahead_in lists.heads lists.next_in lists.total plan.blank plan.parent plan.kind plan.box_width plan.box_depth plan.rank plan.cells plan.filed plan.children plan.child plan.appointed plan.climb plan.path plan.within plan.subtree plan.row plan.ahead plan.next plan.earlier placement.best placement.right placement.base placement.bottom placement.width placement.rows contour.greatest contour.cover contour.clash contour.separation contour.stride contour.offset contour.lefts contour.rights contour.contour ours.middle ours.around ours.trace ours.contours ours.shift ours.along ours.column ours.sheet refusal asked.take_steps asked.take_step asked.put asked.with_each asked.kept asked.sequence asked.ask_all asked.ask asked.at_each asked.holds asked.puts asked.number asked.roomy asked.all_roomy asked.enough asked.in_file asked.on_labels asked.lower asked.sized asked.asked asked.or_else kinds.about kinds.known kinds.allows kinds.bordered plan.level forms.marked forms.form_of forms.record_size forms.widest asked.widest_in
printed-reason = refl

-- `refused 2 0`
pub printed-refusal : why_text (32 ∷ 32 ∷ 32 ∷ 32 ∷ 32 ∷ 32 ∷ 32 ∷ 32 ∷ 32 ∷ 32 ∷ 32 ∷ 32 ∷ 32 ∷ 32 ∷ 32 ∷ []) ≡ 114 ∷ 101 ∷ 102 ∷ 117 ∷ 115 ∷ 101 ∷ 100 ∷ 32 ∷ 50 ∷ 32 ∷ 48 ∷ 10 ∷ []
unfolding why_lines why_text printed.lines_joined reading.reading_of reading.columns_of fields.pair fields.number_at fields.parent_place fields.kind_place fields.width_place fields.depth_place fields.length_place fields.rank_place fields.start_place fields.begin_place fields.count_place fields.allowance_place fields.mark_place format.trailer_of forms.marked forms.form_of forms.record_size forms.widest format.record_at format.entry format.records_of format.file_given printed.digits printed.decimal printed.line printed.refused_line refusal asked.take_steps asked.take_step asked.put asked.with_each asked.kept asked.sequence asked.ask_all asked.ask asked.at_each asked.holds asked.puts asked.number asked.roomy asked.all_roomy asked.enough asked.in_file asked.on_labels asked.asked asked.or_else lists.from lists.mem lists.some
printed-refusal = refl
