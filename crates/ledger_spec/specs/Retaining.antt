-- What is retained, and when a rotation is due. A ledger is retained where it is listed, for its sequence, or pinned, by a view or a
-- session.
use Rattle.std.specs.Prelude.{ℕ, ◌+◌, ◌-◌, ◌==◌, ◌||◌, ◌≤◌, ◌⊎◌, ◌↔◌, max, nat_le, Bool, if◌then◌else◌, IsTrue, IsSomeAnd, List, []}
use Rattle.std.specs.Prelude.{Option, None, Some}
use Rattle.std.specs.List.{Contains, IsDistinct, filter, fold}
use Rattle.std.specs.Map.{values_of}
use Rattle.std.specs.Option.{unwrap_or}
use Rattle.ledger_spec.specs.Maps.{ForHash, hash_cmp, get_in, has_in, insert_in, set_in, remove_in}
use Rattle.ledger_spec.specs.Bytes.{Hash, same_bytes}

-- the listed ledgers with their sequences, the pinned ones with how often they are pinned, the floor, below which none is listed, the
-- sequence of the last rotation and of the one under way, and the interval
pub record Retention : Type 0 where
  pub listed : ForHash ℕ
  pub pins : ForHash ℕ
  pub floor : ℕ
  pub last : Option ℕ
  pub turning : Option ℕ
  pub interval : ℕ

-- nothing is retained yet
abbrev pub none_retained : ℕ → Retention
none_retained interval = record { listed = []; pins = []; floor = 0; last = None; turning = None; interval = interval }

-- it has a sequence in the list
abbrev pub is_listed : Retention → Hash → Bool
is_listed b h = has_in hash_cmp b.listed h

-- a view or a session holds it
abbrev pub is_pinned : Retention → Hash → Bool
is_pinned b h = has_in hash_cmp b.pins h

-- listed or pinned
abbrev pub is_retained : Retention → Hash → Bool
is_retained b h = is_listed b h || is_pinned b h

-- the last sequence, or this one where there is none
abbrev pub last_or : Option ℕ → ℕ → ℕ
last_or None seq = seq
last_or (Some last) seq = last

-- the ledger is listed; `last`, where it was unset, is its sequence
abbrev pub after_listing : Retention → Hash → ℕ → Retention
after_listing b h seq = record b { listed = insert_in hash_cmp b.listed h seq; last = Some (last_or b.last seq) }

-- how often the ledger is pinned
abbrev pub pin_count : ForHash ℕ → Hash → ℕ
pin_count pins h = unwrap_or (get_in hash_cmp pins h) 0

abbrev pub pins_of : Retention → Hash → ℕ
pins_of b h = pin_count b.pins h

-- one pin more
abbrev pub after_pinning : Retention → Hash → Retention
after_pinning b h = record b { pins = insert_in hash_cmp b.pins h (pins_of b h + 1) }

-- one pin less of the n; with the last one the ledger is pinned no more
abbrev pub with_pin_less : ForHash ℕ → Hash → ℕ → ForHash ℕ
with_pin_less pins h n = if n == 1 then remove_in hash_cmp pins h else set_in hash_cmp pins h (n - 1)

-- one pin of the ledger less
abbrev pub after_unpinning : Retention → Hash → Retention
after_unpinning b h = record b { pins = with_pin_less b.pins h (pins_of b h) }

-- the greatest listed sequence, 0 where nothing is listed
abbrev pub greatest : ForHash ℕ → ℕ
greatest listed = fold max 0 (values_of listed)

-- the sequence at which a rotation is due: the greatest listed one, where it is at least the last rotation's plus the interval
abbrev pub due_at : ForHash ℕ → Option ℕ → ℕ → Option ℕ
due_at listed None interval = None
due_at listed (Some last) interval = if nat_le (last + interval) (greatest listed) then Some (greatest listed) else None

-- the same of a book
abbrev pub due : Retention → Option ℕ
due b = due_at b.listed b.last b.interval

-- the floor that a rotation sets, behind the last rotation
abbrev pub floor_behind : Option ℕ → ℕ
floor_behind last = unwrap_or last 0 + 1

-- the listed ledgers that aren't below the floor
abbrev pub listed_from : ℕ → ForHash ℕ → ForHash ℕ
listed_from floor listed = filter (λ e. nat_le floor e.1) listed

-- the rotation that is due is under way: the floor rises, and lower ledgers are listed no more
abbrev pub after_begin : Retention → Retention
after_begin b =
    record b { floor = floor_behind b.last; listed = listed_from (floor_behind b.last) b.listed; turning = due b }

-- the rotation under way is the last one
abbrev pub after_finish : Retention → Retention
after_finish b = record b { last = b.turning; turning = None }

-- pinned, or listed with a sequence of at least this one
abbrev pub IsRootFrom : Retention → ℕ → Hash → Type 0
IsRootFrom b floor h = IsTrue (is_pinned b h) ⊎ IsSomeAnd (get_in hash_cmp b.listed h) (λ seq. floor ≤ seq)

-- those hashes, each once
pub record AreRootsFrom (b : Retention) (floor : ℕ) (hashes : List Hash) : Type 0 where
  pub all : (h : Hash) → Contains hashes h ↔ IsRootFrom b floor h
  pub once : IsDistinct same_bytes hashes
