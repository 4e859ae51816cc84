-- The flags of an axis with one of them set or cleared: docs/RULES.md, "One row, four words".
use Rattle.std.specs.Prelude.{Bool}
use Rattle.axis.specs.declared.row.Flags.{Flags}

-- PRIMED.
abbrev pub with_primed : Bool → Flags → Flags
with_primed b f = record { primed = b; armed = f.armed; homed = f.homed; range = f.range; index = f.index }

-- ARMED.
abbrev pub with_armed : Bool → Flags → Flags
with_armed b f = record { primed = f.primed; armed = b; homed = f.homed; range = f.range; index = f.index }

-- HOMED.
abbrev pub with_homed : Bool → Flags → Flags
with_homed b f = record { primed = f.primed; armed = f.armed; homed = b; range = f.range; index = f.index }

-- RANGE.
abbrev pub with_range : Bool → Flags → Flags
with_range b f = record { primed = f.primed; armed = f.armed; homed = f.homed; range = b; index = f.index }

-- INDEX.
abbrev pub with_index : Bool → Flags → Flags
with_index b f = record { primed = f.primed; armed = f.armed; homed = f.homed; range = f.range; index = b }
