-- What marks there are.
use Rattle.std.specs.Prelude.{ℕ, Bool, is_some, Contains}
use Rattle.std.specs.Map.{lookup}
use Rattle.lru.specs.LruCache.{lru_cache, promoted, put_entries}
use Rattle.full_below.specs.declared.key.MarkKey.{MarkKey}
use Rattle.full_below.specs.declared.marks.Marks.{Marks}
use Rattle.full_below.specs.Keys.{same_mark}

-- whether the key is marked
abbrev pub is_marked : Marks → MarkKey → Bool
is_marked m key = is_some (lookup (same_mark key) m.entries.entries)

-- the key is used: it goes first, where it is there
abbrev pub after_use : Marks → MarkKey → Marks
after_use m key = record m { entries = lru_cache (promoted (same_mark key) m.entries.entries) m.entries.cap }

-- the key is marked: it goes first, and the last one goes where there would be too many
abbrev pub after_mark : Marks → MarkKey → Marks
after_mark m key = record m { entries = lru_cache (put_entries same_mark m.entries key m.generation) m.entries.cap }

-- all that is marked is so
abbrev pub AreMarked : (MarkKey → Type 0) → Marks → Type 0
AreMarked P m = (e : MarkKey × ℕ) → Contains m.entries.entries e → P e.0
