-- What a row's bytes say by OSC 1.0.
use Rattle.std.specs.Prelude.{◌≡◌, ℕ, ◌^◌, ◌<◌, ◌≤◌, ℤ, pos, List, [], ◌∷◌, codes}
use Rattle.tdl_control.specs.Map.{IsMap}
use Rattle.tdl_event.specs.declared.rows.Row.{Row}
use Rattle.tdl_fraction.specs.Rational.{whole, ◌≤ℚ◌, ◌<ℚ◌}
use Rattle.tdl_tempo.specs.Tempo.{Pace, IsCps, timetag}
use Rattle.tdl_osc.specs.Bundle.{row_arguments, bytes_of}
use Rattle.tdl_osc.specs.OscBundle.{OscMessage, IsBundle}

-- an onset in [0, 2^20), a length above 0, an orbit of one byte from 1 on, and a map of controls
pub record IsSendable (row : Row) : Type 0 where
  pub from_zero : whole (pos 0) ≤ℚ row.onset
  pub below_end : row.onset <ℚ whole (pos (2 ^ 20))
  pub has_length : whole (pos 0) <ℚ row.length
  pub has_orbit : 1 ≤ row.orbit
  pub short_orbit : row.orbit < 2 ^ 8
  pub is_map : IsMap row.controls

-- the message that a row is played by
abbrev pub play_message : Row → Pace → OscMessage
play_message row tempo = record { address = codes "/dirt/play"; arguments = row_arguments row tempo }

pub record BundleLaws : Type 0 where
  -- a row's bytes are a bundle with the time tag of its onset and one message, by which it is played
  pub of_row : (row : Row) (tempo : Pace) → IsSendable row → IsCps tempo.cps
      → IsBundle (bytes_of row tempo) (timetag tempo row.onset) (play_message row tempo ∷ [])
  -- bytes are one bundle at most
  pub one : (bytes : List ℕ) (s t : ℤ) (left right : List OscMessage) → IsBundle bytes s left → IsBundle bytes t right
      → (s ≡ t) × (left ≡ right)
