-- The limits of the machine: how much may be open at a time, and which numbers there are.
use Rattle.std.specs.Prelude.{ℕ}

-- how many actors there are, numbered from 0
abbrev pub actors : ℕ
actors = 64

-- how many acquisitions may be open
abbrev pub most_wanted : ℕ
most_wanted = 64

-- how many views
abbrev pub most_views : ℕ
most_views = 1024

-- how many sessions
abbrev pub most_sessions : ℕ
most_sessions = 64

-- how many items a page may be asked for
abbrev pub most_listed : ℕ
most_listed = 256

-- the last sequence that a header may have
abbrev pub last_seq : ℕ
last_seq = 4294967295

-- the interval of rotations where no word names one
abbrev pub default_interval : ℕ
default_interval = 256
