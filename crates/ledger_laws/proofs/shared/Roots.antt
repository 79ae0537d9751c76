-- Each root stays one of which a fact is known, as commands change what is listed, viewed, edited and wanted. For proofs of other crates.
use Rattle.std.proofs.Common.{◌≡◌, ℕ, Bool, true, false, not, if◌then◌else◌, List, [], ◌∷◌, ◌++◌, map}
use Rattle.std.proofs.Common.{cond, Option, None, Some, Contains, is_some, refl, sym, ap, subst}
use Rattle.std.specs.Option.{option_map_or}
use Rattle.std.specs.FinMap as finite
use Rattle.std.specs.FinSet as set
use Rattle.std.specs.List.{All}
use Rattle.std.specs.Map.{keys_of, values_of, set_value}
use Rattle.std.proofs.lemmas.Map.Lookups.{exact_bytes}
use Rattle.std.proofs.lemmas.Map.Views.{Contains-keys_from_lookup, tells_apart}
use Rattle.std.proofs.lemmas.Map.Views.{All-keys-insert_entry, All-values-insert_entry, All-map-remove_entry, All-values-set_value}
use Rattle.std.proofs.lemmas.List.Elements.{All-nil, All-cons, All-weaker, All-append, All-map, All-contains}
use Rattle.std.proofs.lemmas.List.Elements.{Contains-append_left, Contains-append_right, Contains-get_or}
use Rattle.ledger_spec.specs.Bytes.{Bytes, Hash, Half}
use Rattle.ledger_spec.specs.declared.Kind.{Kind}
use Rattle.ledger_spec.specs.Forms.{Held}
use Rattle.ledger_spec.specs.Maps.{ForHash, hash_cmp, numbered_cmp, get_in, set_in, insert_in, remove_in}
use Rattle.ledger_spec.specs.Acquiring.{Acquiring, acquiring}
use Rattle.ledger_machine.specs.declared.commands.WantReply.{WantReply}
use Rattle.ledger_machine.specs.declared.commands.WantReply.TheVariants as want
use Rattle.ledger_spec.specs.declared.replies.CheckReply.{CheckReply}
use Rattle.ledger_spec.specs.declared.replies.CheckReply.TheVariants as check
use Rattle.ledger_spec.specs.declared.replies.TickReply.{TickReply}
use Rattle.ledger_spec.specs.declared.replies.TickReply.TheVariants as tick
use Rattle.ledger_machine.specs.declared.commands.ViewReply.{ViewReply}
use Rattle.ledger_machine.specs.declared.commands.ViewReply.TheVariants as view
use Rattle.ledger_machine.specs.declared.commands.EditReply.{EditReply}
use Rattle.ledger_machine.specs.declared.commands.EditReply.TheVariants as edits
use Rattle.ledger_spec.specs.declared.replies.BaseReply.TheVariants as base
use Rattle.ledger_spec.specs.declared.replies.NodeReply.TheVariants as node
use Rattle.ledger_machine.specs.declared.commands.CloseReply.TheVariants as close
use Rattle.ledger_machine.specs.declared.commands.Reply.{Reply}
use Rattle.ledger_machine.specs.declared.commands.Reply.TheVariants as says
use Rattle.ledger_machine.specs.State.{State, Session, form_in, retained, roots, bases, with_form, with_forms, with_wanted}
use Rattle.ledger_machine.specs.Want.{after_want}
use Rattle.ledger_machine.specs.Check.{check_reply, check_given, after_check}
use Rattle.ledger_spec.specs.Bases.{base_forms}
use Rattle.ledger_machine.specs.Base.{after_base, after_node, node_forms}
use Rattle.ledger_machine.specs.Ticks.{after_tick}
use Rattle.ledger_machine.specs.Views.{is_retained, after_view}
use Rattle.ledger_machine.specs.Sessions.{session_on, after_edit, with_session, without_session}
use Rattle.ledger_machine.specs.Closing.{after_close, closed, closing_forms, new_header}
use Rattle.ledger_machine.specs.Steps.{IsAfter, Gets, Pages}
use Rattle.ledger_laws.proofs.shared.SoundForms.{in_head, in_tail}
use Rattle.ledger_laws.proofs.shared.SoundTables.{all_found}
use Rattle.ledger_laws.proofs.shared.SoundViews.{among}

-- a fact of each listed ledger, of each that is viewed, of each that is edited and of each that is wanted, and the rotation under way
abbrev pub Stands : (Hash → Type 0) → Option ℕ → State → Type 0
Stands P v s =
    All P (keys_of s.listed) × All P (values_of s.views) × All (λ (e : Session). P e.base) (values_of s.sessions)
    × All P (keys_of s.wanted) × (s.turning ≡ v)

-- each value's image is among the images
pub imaged : {A B : Type 0} (f : A → B) (xs : List A) → All (λ x. Contains (map f xs) (f x)) xs
imaged f [] = All-nil (λ x. Contains (map f []) (f x))
imaged f (x ∷ xs) =
    All-cons (λ y. Contains (f x ∷ map f xs) (f y)) x xs (in_head (f x) (map f xs))
    (All-weaker (λ y. Contains (map f xs) (f y)) (λ y. Contains (f x ∷ map f xs) (f y)) (λ y c. in_tail (f x) (f y) (map f xs) c) xs
    (imaged f xs))

pub listed_among : (s : State) (h : Hash) → Contains (keys_of s.listed) h → Contains (roots s) h
listed_among s h c =
    Contains-append_left (retained s) (keys_of s.wanted) h
    (Contains-append_left (keys_of s.listed ++ values_of s.views) (bases s) h
    (Contains-append_left (keys_of s.listed) (values_of s.views) h c))

pub viewed_among : (s : State) (h : Hash) → Contains (values_of s.views) h → Contains (roots s) h
viewed_among s h c =
    Contains-append_left (retained s) (keys_of s.wanted) h
    (Contains-append_left (keys_of s.listed ++ values_of s.views) (bases s) h
    (Contains-append_right (keys_of s.listed) (values_of s.views) h c))

pub based_among : (s : State) (h : Hash) → Contains (bases s) h → Contains (roots s) h
based_among s h c =
    Contains-append_left (retained s) (keys_of s.wanted) h
    (Contains-append_right (keys_of s.listed ++ values_of s.views) (bases s) h c)

pub wanted_among : (s : State) (h : Hash) → Contains (keys_of s.wanted) h → Contains (roots s) h
wanted_among s h c = Contains-append_right (retained s) (keys_of s.wanted) h c

-- a fact of each root
pub stands_each : (P : Hash → Type 0) (s : State) → ((h : Hash) → Contains (roots s) h → P h) → Stands P s.turning s
stands_each P s each = (
  λ k d lt. each _ (listed_among s _ (Contains-get_or (keys_of s.listed) k d lt)),
  λ k d lt. each _ (viewed_among s _ (Contains-get_or (values_of s.views) k d lt)),
  All-weaker (λ (e : Session). Contains (bases s) e.base) (λ (e : Session). P e.base) (λ e c. each e.base (based_among s e.base c))
      (values_of s.sessions) (imaged (λ (x : Session). x.base) (values_of s.sessions)),
  λ k d lt. each _ (wanted_among s _ (Contains-get_or (keys_of s.wanted) k d lt)),
  refl,
)

pub each_stands : (P : Hash → Type 0) (v : Option ℕ) (s : State) → Stands P v s → (h : Hash) → Contains (roots s) h → P h
each_stands P v s st h c =
    All-contains P (roots s) h
    (All-append P (retained s) (keys_of s.wanted)
    (All-append P (keys_of s.listed ++ values_of s.views) (bases s) (All-append P (keys_of s.listed) (values_of s.views) st.0 st.1)
    (All-map P (λ (x : Session). x.base) (values_of s.sessions) st.2)) st.3) c

-- another value under a key leaves the keys
keys_set : {K X : Type 0} (test : K → Bool) (m : List (K × X)) (x : X) → keys_of (set_value test m x) ≡ keys_of m
keys_set test [] x = refl
keys_set test (e ∷ m) x = at (test e.0) (keys_set test m x)
  where
    at : (b : Bool) → keys_of (set_value test m x) ≡ keys_of m → keys_of (cond b ((e.0, x) ∷ m) (e ∷ set_value test m x)) ≡ keys_of (e ∷ m)
    at true rest = refl
    at false rest = ap (λ ks. e.0 ∷ ks) rest

module _ (P : Hash → Type 0) (v : Option ℕ) where
  -- what a rotation keeps is no root
  pub after_stands : (t s' : State) → IsAfter t s' → Stands P v t → Stands P v s'
  after_stands t s' e st = subst (Stands P v) (sym e) st

  -- nor are forms
  pub form_stands : (half : Half) (s : State) (form : Bytes) → Stands P v s → Stands P v (with_form half s form)
  form_stands half s form st = at (is_some (form_in s (half form)))
    where
      at : (b : Bool) → Stands P v (if b then s else record s
          { nodes = finite.insert s.nodes (half form) form; born = set.insert s.born (half form) })
      at true = st
      at false = st

  pub forms_stand : (half : Half) (s : State) (forms : List Bytes) → Stands P v s → Stands P v (with_forms half s forms)
  forms_stand half s [] st = st
  forms_stand half s (form ∷ forms) st = forms_stand half (with_form half s form) forms (form_stands half s form st)

  -- a change of an acquisition leaves the targets
  pub wanted_stands : (s : State) (t : Hash) (change : Acquiring → Acquiring) → Stands P v s → Stands P v (with_wanted s t change)
  wanted_stands s t change st =
      (st.0, st.1, st.2, at (get_in hash_cmp s.wanted t), st.4)
    where
      at : (o : Option Acquiring)
          → All P (keys_of (option_map_or (λ a. set_in hash_cmp s.wanted t (change a)) o s.wanted))
      at None = st.3
      at (Some a) = subst (λ (hs : List Hash). All P hs) (sym (keys_set _ s.wanted (change a))) st.3

  pub ended_stands : (s : State) (t : Hash) → Stands P v s → Stands P v (record s { wanted = remove_in hash_cmp s.wanted t })
  ended_stands s t st = (st.0, st.1, st.2, All-map-remove_entry _ (λ e. e.0) P s.wanted st.3, st.4)

  pub want_stands : (s : State) (t : Hash) (seq : ℕ) (r : WantReply) → (r ≡ want.Opened → P t) → Stands P v s
      → Stands P v (after_want s t seq r)
  want_stands s t seq want.Opened new st =
      (st.0, st.1, st.2, All-keys-insert_entry hash_cmp t (acquiring t seq) P s.wanted st.3 (new refl), st.4)
  want_stands s t seq want.Open new st = st
  want_stands s t seq want.Listed new st = st
  want_stands s t seq (want.BelowFloor n) new st = st
  want_stands s t seq want.TooMany new st = st

  -- a ledger is listed
  pub listed_stands : (s : State) (t : Hash) (seq : ℕ) → P t → Stands P v s
      → All P (keys_of (insert_in hash_cmp s.listed t seq))
  listed_stands s t seq new st = All-keys-insert_entry hash_cmp t seq P s.listed st.0 new

  pub check_stands : (s : State) (t : Hash) (seq : ℕ) (r : CheckReply) → (r ≡ check.Complete → P t) → Stands P v s
      → Stands P v (after_check s t seq r)
  check_stands s t seq check.Complete new st =
      (listed_stands s t seq (new refl) st, st.1, st.2, All-map-remove_entry _ (λ e. e.0) P s.wanted st.3, st.4)
  check_stands s t seq (check.Need p places) new st = wanted_stands s t _ st
  check_stands s t seq (check.SeqDiffers asked found) new st = ended_stands s t st
  check_stands s t seq check.ZeroState new st = ended_stands s t st
  check_stands s t seq (check.BelowFloor f) new st = ended_stands s t st
  check_stands s t seq (check.Malformed place rule) new st = ended_stands s t st
  check_stands s t seq (check.Waiting n) new st = st
  check_stands s t seq check.NoPeer new st = st
  check_stands s t seq check.NotOpen new st = st

  pub tick_stands : (s : State) (t : Hash) (r : TickReply) → Stands P v s → Stands P v (after_tick s t r)
  tick_stands s t (tick.Timeout n) st = wanted_stands s t _ st
  tick_stands s t (tick.GaveUp n) st = ended_stands s t st
  tick_stands s t tick.NotOpen st = st

  pub base_stands : (half : Half) (s : State) (p : ℕ) (t : Hash) (bytes : Bytes) (state tx : Option Bytes) (r : Reply) → Stands P v s
      → Stands P v (after_base half s p t bytes state tx r)
  base_stands half s p t bytes state tx (says.Base (base.Parts h a b)) st =
      wanted_stands (with_forms half s (base_forms half (form_in s) t bytes state tx)) t _
      (forms_stand half s (base_forms half (form_in s) t bytes state tx) st)
  base_stands half s p t bytes state tx _ st = st

  pub node_stands : (half : Half) (s : State) (p : ℕ) (t : Hash) (kind : Kind) (path : List ℕ) (blob : Bytes) (r : Reply) → Stands P v s
      → Stands P v (after_node half s p t kind path blob r)
  node_stands half s p t kind path blob (says.Node (node.One o)) st =
      wanted_stands (with_forms half s (node_forms half s t kind path blob)) t _
      (forms_stand half s (node_forms half s t kind path blob) st)
  node_stands half s p t kind path blob _ st = st

  pub view_stands : (s : State) (x : ℕ × ℕ) (t : Hash) (r : ViewReply) → (r ≡ view.Fine → P t) → Stands P v s → Stands P v (after_view s x t r)
  view_stands s x t view.Fine new st = (st.0, All-values-insert_entry numbered_cmp x t P s.views st.1 (new refl), st.2, st.3, st.4)
  view_stands s x t view.InUse new st = st
  view_stands s x t view.NotRetained new st = st
  view_stands s x t view.TooMany new st = st

  pub edit_stands : (half : Half) (s : State) (x : ℕ × ℕ) (t : Hash) (r : EditReply) → (r ≡ edits.Fine → P t) → Stands P v s
      → Stands P v (after_edit half s x t r)
  edit_stands half s x t edits.Fine new st = (
    st.0,
    st.1,
    All-values-insert_entry numbered_cmp x (session_on half s t) (λ (e : Session). P e.base) s.sessions st.2
        (new refl),
    st.3,
    st.4,
  )
  edit_stands half s x t edits.InUse new st = st
  edit_stands half s x t edits.NotRetained new st = st
  edit_stands half s x t edits.LastSeq new st = st
  edit_stands half s x t edits.TooMany new st = st

  -- a session that changes stays one on its ledger
  pub session_stands : (s : State) (x : ℕ × ℕ) (change : Session → Session) → ((e : Session) → (change e).base ≡ e.base) → Stands P v s
      → Stands P v (with_session s x change)
  session_stands s x change same st = at (get_in numbered_cmp s.sessions x) refl
    where
      at : (o : Option Session) → get_in numbered_cmp s.sessions x ≡ o
          → Stands P v (option_map_or (λ e. record s { sessions = set_in numbered_cmp s.sessions x (change e) }) o s)
      at None is = st
      at (Some e) is = (
        st.0,
        st.1,
        All-values-set_value _ (λ (y : Session). P y.base) s.sessions (change e) st.2
            (subst P (sym (same e)) (all_found (λ (y : Session). P y.base) _ s.sessions e st.2 is)),
        st.3,
        st.4,
      )

  pub without_stands : (s : State) (x : ℕ × ℕ) → Stands P v s → Stands P v (without_session s x)
  without_stands s x st =
      (st.0, st.1, All-map-remove_entry _ (λ e. e.1) (λ (e : Session). P e.base) s.sessions st.2, st.3, st.4)

  pub close_stands : (half : Half) (s : State) (x : ℕ × ℕ) (fields : List ℕ) (r : Reply)
      → ((h : Hash) → r ≡ says.Close (close.Closed h) → P h) → Stands P v s → Stands P v (after_close half s x fields r)
  close_stands half s x fields (says.Close (close.Closed h)) new st = at (get_in numbered_cmp s.sessions x)
    where
      at : (o : Option Session) → Stands P v (closed half s x fields h o)
      at None = st
      at (Some e) =
          let header = new_header half s e fields in
          let forms = closing_forms half e header in
          let st' = forms_stand half s forms st in (
            listed_stands (with_forms half s forms) h _ (new h refl) st',
            st'.1,
            All-map-remove_entry _ (λ e. e.1) (λ (e : Session). P e.base) (with_forms half s forms).sessions st'.2,
            st'.3,
            st'.4,
          )
  close_stands half s x fields _ new st = st

  pub gets_stands : (half : Half) (s : State) (kind : Kind) (key : Hash) (root : Option Hash) (r : Reply) (used : List Held) (s' : State)
      → Gets half s kind key root r used s' → Stands P v s → Stands P v s'
  gets_stands half s kind key None r used s' g st = after_stands s s' g.after st
  gets_stands half s kind key (Some root) r used s' g st = after_stands s s' g.1 st

  pub pages_stands : (half : Half) (s : State) (kind : Kind) (key : Hash) (n : ℕ) (root : Option Hash) (r : Reply) (used : List Held)
      (s' : State)
      → Pages half s kind key n root r used s' → Stands P v s → Stands P v s'
  pages_stands half s kind key n None r used s' g st = after_stands s s' g.after st
  pages_stands half s kind key n (Some root) r used s' g st = after_stands s s' g.1 st

-- what is viewed or edited anew was retained, and what is listed by a check was wanted
pub fine_view : (a b c : Bool)
    → (if a then view.InUse else if not b then view.NotRetained else if c then view.TooMany else view.Fine) ≡ view.Fine
    → b ≡ true
fine_view true b c e = cc
fine_view false false c e = cc
fine_view false true c e = refl

pub fine_edit : (a b c d : Bool)
    → (if a then edits.InUse else if not b then edits.NotRetained else if c then edits.LastSeq else if d then edits.TooMany else edits.Fine)
    ≡ edits.Fine
    → b ≡ true
fine_edit true b c d e = cc
fine_edit false false c d e = cc
fine_edit false true c d e = refl

pub retained_root : (s : State) (t : Hash) → is_retained s t ≡ true → Contains (roots s) t
retained_root s t kept = Contains-append_left (retained s) (keys_of s.wanted) t (among t (retained s) kept)

pub found_key : {X : Type 0} (m : ForHash X) (t : Hash) (x : X) → get_in hash_cmp m t ≡ Some x → Contains (keys_of m) t
found_key m t x is = Contains-keys_from_lookup (tells_apart exact_bytes) t m (ap is_some is)

pub checked_root : (half : Half) (s : State) (t : Hash) → check_reply half s t ≡ check.Complete → Contains (roots s) t
checked_root half s t whole = at (get_in hash_cmp s.wanted t) refl whole
  where
    at : (o : Option Acquiring) → get_in hash_cmp s.wanted t ≡ o → check_given half s t o ≡ check.Complete → Contains (roots s) t
    at None is e = cc
    at (Some a) is e = wanted_among s t (found_key s.wanted t a is)
