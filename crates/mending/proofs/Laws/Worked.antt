-- The rows of specs/Worked.antt: computed. Assumes nothing.
use Rattle.std.specs.Prelude.{refl}
use Rattle.plan.specs.Lists as lists
use Rattle.plan.specs.Plan as tables
use Rattle.plan.specs.Forms as forms
use Rattle.plan.specs.Kinds as kinds
use Rattle.plan.specs.Records as records
use Rattle.plan.specs.Questions as asked
use Rattle.plan.specs.Questions.{refusal}
use Rattle.planfile_spec.specs.Fields as fields
use Rattle.planfile_spec.specs.Format as format
use Rattle.listing.specs.Printed as printed
use Rattle.mending_boxes.specs.Boxes as boxes
use Rattle.mending_boxes.specs.Raised as raised
use Rattle.mending_lines.specs.Lines as lines
use Rattle.mending.specs.Mended as mended
use Rattle.mending.specs.Mending as mending
use Rattle.mending.specs.Worked.{plan, wide, box, Rows}

pub worked : Rows
unfolding plan wide box boxes.least_width boxes.mendable boxes.cramped boxes.shallow boxes.new_width boxes.new_depth boxes.changed raised.raise_width raised.raise_depth raised.mend_record raised.mend_records mended.looked_at mended.mended mended.altered_cells mended.altered lines.alteration_line mending.lines_of printed.digits printed.decimal printed.line printed.mended_line printed.lines_joined fields.pair fields.set_pair fields.number_at fields.set_number fields.parent_place fields.kind_place fields.width_place fields.depth_place fields.length_place fields.rank_place fields.start_place fields.begin_place fields.count_place fields.allowance_place fields.mark_place format.trailer_of format.record_at format.entry format.records_of format.file_given records.bare records.cells_of asked.every asked.in_table lists.from lists.keep lists.insert lists.sort lists.some lists.mem lists.total tables.blank tables.parent tables.kind tables.box_width tables.box_depth tables.rank tables.filed tables.children tables.climb tables.path tables.row tables.level refusal asked.take_steps asked.take_step asked.put asked.with_each asked.kept asked.sequence asked.ask_all asked.ask asked.at_each asked.holds asked.puts asked.number asked.roomy asked.all_roomy asked.enough asked.in_file asked.on_labels asked.lower asked.sized asked.asked asked.or_else kinds.about kinds.known kinds.allows kinds.bordered forms.marked forms.form_of forms.record_size forms.widest asked.widest_in
worked =
    record {
      whole = (refl, refl);
      cramped = (refl, refl);
      deep = refl;
      unknown = refl;
      wide_narrow = refl;
      wide_kept = refl;
      unmarked = refl;
      step = (refl, refl, refl);
      repeat = (refl, refl);
      long_label = (refl, refl, refl, refl);
      no_kind = (refl, refl, refl);
      depths = (refl, refl, refl);
    }
