-- Each example is computed: with every rule on its way from fresh unfolded, both sides come to the same value.
use mathlib.Core.Path.{refl}
use Rattle.integers.specs.Words.{each}
use Rattle.promises.specs.Sheet.{sheet, in_range}
use Rattle.promises.specs.Valve.{moved_to, entered, controlled, faulted, clamp, target, status}
use Rattle.promises.specs.Valve.{away_time, toward_time, step_of, opposite, step_from, halts, stepped, ticked, tick, ticks}
use Rattle.promises.specs.Valve.{rounded_up, ticks_to_go, height, dither, whole, banded, command}
use Rattle.promises.specs.Sdo.{number_for, stands_for, value_at, sent_by, crosses, map_aborts, write_aborts, aborts}
use Rattle.promises.specs.Sdo.{written, served, reply, received, sent, sound_map}
use Rattle.promises.specs.Promises.{sound, fresh_told}
use Rattle.promises.specs.Examples.{Examples, Witnesses}

-- the rules by file: to unfold one of these is to unfold every rule that it names
path : Unit {0}
unfolding moved_to entered controlled faulted clamp target status height dither whole banded command
path = tt

valve : Unit {0}
unfolding path away_time toward_time step_of opposite step_from halts stepped ticked tick ticks rounded_up ticks_to_go
valve = tt

requests : Unit {0}
unfolding number_for stands_for value_at sent_by crosses map_aborts write_aborts aborts written served reply received sent
requests = tt

soundness : Unit {0}
unfolding each sheet in_range sound_map sound fresh_told
soundness = tt

pub examples : Examples
unfolding valve requests soundness
examples =
    record {
      limits = refl;
      half_of_minus_one = refl;
      half_of_minus_three = refl;
      largest_factor = refl;
      step_of_a_second = refl;
      stroke_in_a_second = refl;
      step_of_an_hour = refl;
      out_and_in = refl;
      ticks_out_and_in = refl;
      at_the_threshold = refl;
      above_it = refl;
      below_its_negative = refl;
      clamped = refl;
      seven_is_hold = refl;
      seven_again_is_active = refl;
      in_fault = refl;
      eight_resets = refl;
      crossed_is_aborted = refl;
      equal_is_accepted = refl;
      eight_held = refl;
      eight_anew = refl;
      status_of_fresh = refl;
    }

pub witnesses : Witnesses
unfolding valve requests soundness
witnesses =
    record {
      longest = refl;
      longest_in_type_one = refl;
      through_zero = refl;
      square = refl;
      triangle = refl;
      pressure_drives = refl;
    }
