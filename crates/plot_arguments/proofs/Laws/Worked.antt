-- The worked rows, computed. Assumes nothing.
use Rattle.std.specs.Prelude.{refl}
use Rattle.plot_arguments.specs.Lengths.{next_place, with_point, with_digit, step, run, thousandths, finish, length_of}
use Rattle.plot_arguments.specs.Worked.{Rows}

pub worked : Rows
unfolding next_place with_point with_digit step run thousandths finish length_of
worked =
    record {
      whole = refl;
      one_behind = refl;
      two_behind = refl;
      three_behind = refl;
      point_last = refl;
      point_first = refl;
      noughts = refl;
      large = refl;
      empty = refl;
      lone_point = refl;
      two_points = refl;
      four_behind = refl;
      signed = refl;
      lettered = refl;
    }
