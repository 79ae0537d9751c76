-- A state whose stored forms grow by sound ones, while its tables stay, stays sound.
use Rattle.std.proofs.Common.{◌≡◌, ◌⊎◌, inl, inr, ⊎_elim, ◌≤◌, ℕ, ◌++◌, map, Option, None, Some, Contains, refl, sym, ap, ◌∙◌, subst}
use Rattle.std.proofs.Common.{IsSomeAnd}
use Rattle.std.specs.Option.{option_map_or}
use Rattle.std.specs.Map.{keys_of, values_of}
use Rattle.std.specs.FinMap as finite
use Rattle.std.specs.List.{All}
use Rattle.std.proofs.lemmas.Map.Views.{All-values-set_value, All-map-remove_entry}
use Rattle.ledger_spec.specs.Maps.{ForHash, hash_cmp, IsMap, get_in, set_in, remove_in}
use Rattle.ledger_spec.specs.Bytes.{Bytes, Hash, Half, Nodes}
use Rattle.ledger_spec.specs.Header.{seq_of}
use Rattle.ledger_spec.specs.Acquiring.{Acquiring}
use Rattle.ledger_spec.specs.Peers.{Peers}
use Rattle.ledger_spec.specs.Spots.{header_in}
use Rattle.ledger_spec.proofs.shared.ReachLaws.{Grows}
use Rattle.ledger_spec.proofs.shared.Growth.{header_grows}
use Rattle.ledger_machine.specs.State.{State, form_in, retained, bases, changed, with_wanted, with_peers, ended}
use Rattle.ledger_machine.specs.Sound.{Sound, IsStoredAt, AreTables}
use Rattle.ledger_laws.proofs.Charges.{AreCharges}
use Rattle.ledger_laws.proofs.SoundTables.{set_rises, remove_rises, same_tables}
use Rattle.ledger_laws.proofs.shared.SoundTables.{all_found}
use Rattle.ledger_machine.specs.Steps.{IsAfter, Gives}
use Rattle.ledger_machine.specs.declared.commands.Reply.{Reply}
use Rattle.ledger_laws.proofs.shared.SoundKeeps.{whole_ledger_grows}

-- the charges of an acquisition are a finite map
abbrev pub HasCharges : Acquiring → Type 0
HasCharges a = AreCharges a.peers

-- the stored forms grow by sound ones, and the tables stay
pub record Keeps (half : Half) (s s' : State) : Type 0 where
  pub grows : Grows (form_in s) (form_in s')
  pub news : (h : Hash) (form : Bytes) → form_in s' h ≡ Some form → (form_in s h ≡ Some form) ⊎ IsStoredAt half h form
  pub listed : s'.listed ≡ s.listed
  pub views : s'.views ≡ s.views
  pub sessions : s'.sessions ≡ s.sessions
  pub floor : s'.floor ≡ s.floor
  pub tables : AreTables half s → AreTables half s'

-- the same tables retain the same ledgers
pub same_retained : (half : Half) (s s' : State) → Keeps half s s' → retained s' ≡ retained s
same_retained half s s' k = λ i. keys_of (k.listed i) ++ values_of (k.views i) ++ map (λ x. x.base) (values_of (k.sessions i))

-- the same tables edit the same ledgers
pub same_bases : (half : Half) (s s' : State) → Keeps half s s' → bases s' ≡ bases s
same_bases half s s' k = λ i. map (λ x. x.base) (values_of (k.sessions i))

-- what is listed stays in range
pub listed_grows : (half : Half) (s s' : State) → Keeps half s s' → (t : Hash) (seq : ℕ)
    → (s.floor ≤ seq) × IsSomeAnd (header_in (form_in s) t) (λ h. seq_of h ≡ seq) → (s'.floor ≤ seq)
    × IsSomeAnd (header_in (form_in s') t) (λ h. seq_of h ≡ seq)
listed_grows half s s' k t seq was = (subst (λ n. n ≤ seq) (sym k.floor) was.0, header_grows (form_in s) (form_in s') t _ k.grows was.1)

-- such a state stays sound
pub keeps_sound : (half : Half) (s s' : State) → Sound half s → Keeps half s s' → Sound half s'
keeps_sound half s s' sound k = record {
  forms = λ h form e. ⊎_elim (λ old. sound.forms h form old) (λ new. new) (k.news h form e);
  retained_whole = λ t c. whole_ledger_grows half (form_in s) (form_in s') t k.grows
      (sound.retained_whole t (subst (λ ts. Contains ts t) (same_retained half s s' k) c));
  listed_seq = λ t seq e. listed_grows half s s' k t seq (sound.listed_seq t seq (subst (λ m. get_in hash_cmp m t ≡ Some seq) k.listed e));
  base_seq = λ t c. header_grows (form_in s) (form_in s') t _ k.grows
      (sound.base_seq t (subst (λ ts. Contains ts t) (same_bases half s s' k) c));
  tables = k.tables sound.tables;
}

-- the same forms and tables, acquisitions apart
pub record IsSame (s s' : State) : Type 0 where
  pub nodes : s'.nodes ≡ s.nodes
  pub listed : s'.listed ≡ s.listed
  pub views : s'.views ≡ s.views
  pub sessions : s'.sessions ≡ s.sessions
  pub floor : s'.floor ≡ s.floor

-- the same forms and tables keep a state sound, where the acquisitions are still tables
pub same_keeps : (half : Half) (s s' : State) → IsSame s s' → (AreTables half s → AreTables half s') → Keeps half s s'
same_keeps half s s' same tables = record {
  grows = λ h form e. ap (λ (n : Nodes). finite.get n h) same.nodes ∙ e;
  news = λ h form e. inl (sym (ap (λ (n : Nodes). finite.get n h) same.nodes) ∙ e);
  listed = same.listed;
  views = same.views;
  sessions = same.sessions;
  floor = same.floor;
  tables = tables;
}

-- a state keeps itself sound
pub keeps_self : (half : Half) (s : State) → Keeps half s s
keeps_self half s = same_keeps half s s (record { nodes = refl; listed = refl; views = refl; sessions = refl; floor = refl }) (λ t. t)

-- two changes that keep a state sound, one after another
pub keeps_on : (half : Half) (s mid s' : State) → Keeps half s mid → Keeps half mid s' → Keeps half s s'
keeps_on half s mid s' a b = record {
  grows = λ h form e. b.grows h form (a.grows h form e);
  news = λ h form e. ⊎_elim (λ old. a.news h form old) (λ new. inr new) (b.news h form e);
  listed = b.listed ∙ a.listed;
  views = b.views ∙ a.views;
  sessions = b.sessions ∙ a.sessions;
  floor = b.floor ∙ a.floor;
  tables = λ t. b.tables (a.tables t);
}

-- what a rotation keeps is no part of the forms and the tables
pub shaded_same : (t s' : State) → IsAfter t s' → IsSame t s'
shaded_same t s' e = record {
  nodes = ap (λ x. x.nodes) e;
  listed = ap (λ x. x.listed) e;
  views = ap (λ x. x.views) e;
  sessions =
      ap (λ x. x.sessions) e;
  floor = ap (λ x. x.floor) e;
}

-- nor of the acquisitions
pub shaded_tables : (half : Half) (t s' : State) → IsAfter t s' → AreTables half t → AreTables half s'
shaded_tables half t s' e =
    same_tables half t s' (ap (λ x. x.listed) e) (ap (λ x. x.wanted) e) (ap (λ x. x.views) e) (ap (λ x. x.sessions) e)

-- nor does it matter after a change that keeps a state sound
pub keeps_after : (half : Half) (s t s' : State) → Keeps half s t → IsAfter t s' → Keeps half s s'
keeps_after half s t s' k e = keeps_on half s t s' k (same_keeps half t s' (shaded_same t s' e) (shaded_tables half t s' e))

-- other acquisitions that are a table keep a state sound
pub wanted_keeps : (half : Half) (s : State) (wanted : ForHash Acquiring) → (IsMap hash_cmp s.wanted → IsMap hash_cmp wanted)
    → (All HasCharges (values_of s.wanted) → All HasCharges (values_of wanted)) → Keeps half s (record s { wanted = wanted })
wanted_keeps half s wanted rises charges =
    same_keeps half s (record s { wanted = wanted }) (record { nodes = refl; listed = refl; views = refl; sessions = refl; floor = refl })
    (λ t. record {
      listed = t.listed;
      wanted = rises t.wanted;
      charges = charges t.charges;
      views = t.views;
      sessions =
          t.sessions;
      edits = t.edits;
    })

-- and so does a change of one
pub with_wanted_keeps : (half : Half) (s : State) (t : Hash) (change : Acquiring → Acquiring)
    → ((a : Acquiring) → HasCharges a → HasCharges (change a)) → Keeps half s (with_wanted s t change)
with_wanted_keeps half s t change keeps =
    wanted_keeps half s (changed s.wanted t change) (rises (get_in hash_cmp s.wanted t)) (charged (get_in hash_cmp s.wanted t) refl)
  where
    by : Option Acquiring → ForHash Acquiring
    by o = option_map_or (λ a. set_in hash_cmp s.wanted t (change a)) o s.wanted

    rises : (o : Option Acquiring) → IsMap hash_cmp s.wanted → IsMap hash_cmp (by o)
    rises None is = is
    rises (Some a) is = set_rises hash_cmp _ s.wanted (change a) is

    charged : (o : Option Acquiring) → get_in hash_cmp s.wanted t ≡ o → All HasCharges (values_of s.wanted)
        → All HasCharges (values_of (by o))
    charged None is all = all
    charged (Some a) is all =
        All-values-set_value _ HasCharges s.wanted (change a) all (keeps a (all_found HasCharges _ s.wanted a all is))

-- and so does a change of its peers
pub with_peers_keeps : (half : Half) (s : State) (t : Hash) (change : Peers → Peers)
    → ((x : Peers) → AreCharges x → AreCharges (change x)) → Keeps half s (with_peers s t change)
with_peers_keeps half s t change keeps =
    with_wanted_keeps half s t (λ a. record a { peers = change a.peers }) (λ a. keeps a.peers)

-- and so does the end of one
pub ended_keeps : (half : Half) (s : State) (t : Hash) → Keeps half s (ended s t)
ended_keeps half s t =
    wanted_keeps half s (remove_in hash_cmp s.wanted t) (remove_rises hash_cmp _ s.wanted)
    (λ all. All-map-remove_entry _ (λ e. e.1) HasCharges s.wanted all)

-- the state after an answer that keeps a state sound
pub gives_sound : (half : Half) (s t s' : State) (r reply : Reply) → Sound half s → Keeps half s t → Gives r t reply s' → Sound half s'
gives_sound half s t s' r reply sound k g = keeps_sound half s s' sound (keeps_after half s t s' k g.after)

-- the state after an answer whose state is sound
pub gives_same : (half : Half) (t s' : State) (r reply : Reply) → Sound half t → Gives r t reply s' → Sound half s'
gives_same half t s' r reply sound g =
    keeps_sound half t s' sound (same_keeps half t s' (shaded_same t s' g.after) (shaded_tables half t s' g.after))
