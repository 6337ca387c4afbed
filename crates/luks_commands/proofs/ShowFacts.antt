-- What `show` answers of a header that was read, and of one that wasn't.
use Rattle.std.proofs.Common.{◌≡◌, ℕ, List, length, inl, inr, subst, sym, arith}
use Rattle.luks_area.specs.Device.{count_after}
use Rattle.luks_area.specs.First.{NotAfter, IsLeast}
use Rattle.luks_area.specs.Ranges.{part}
use Rattle.luks1_header.specs.declared.fault.HeadFault.{HeadFault}
use Rattle.luks1_header.specs.declared.luks1.Luks1.{Luks1 as Header1}
use Rattle.luks1_header.specs.Faults.{head_key, IsLuks1Fault}
use Rattle.luks1_header.specs.Header1.{IsLuks1}
use Rattle.luks2_header.specs.Header2.{header_at, uuid_field}
use Rattle.luks2_header.specs.Selection.{luks1, luks2, Chosen}
use Rattle.luks2_header.proofs.ChoiceFacts.{choices_agree, uuid_sound}
use Rattle.luks_rules.proofs.Deciding.{metadata_faultless}
use Rattle.luks_meta.specs.Content.{content}
use Rattle.luks_reading.specs.declared.check_fault.CheckFault.{CheckFault}
use Rattle.luks_reading.specs.declared.check_fault.CheckFault.TheVariants.{Head, Meta, Area, Device, Memory}
use Rattle.luks_reading.specs.declared.header.ChosenCopy.{ChosenCopy}
use Rattle.luks_reading.specs.declared.header.Header.{Header}
use Rattle.luks_reading.specs.declared.header.Header.TheVariants as header
use Rattle.luks_reading.specs.declared.read_fault.ReadFault.{ReadFault}
use Rattle.luks_reading.specs.declared.read_fault.ReadFault.TheVariants as reading
use Rattle.luks_reading.specs.declared.report.Data.TheVariants.{Elsewhere}
use Rattle.luks_reading.specs.Checked.{check_key, First, IsFaultAs}
use Rattle.luks_reading.specs.Conversions.{head_unread, unread_checked}
use Rattle.luks_reading.specs.Failures.{is_read_failure}
use Rattle.luks_reading.specs.Header.{json_at, IsChosenCopy, IsHeader, IsUnread}
use Rattle.luks_reading.proofs.CheckFacts.{unread_refused}
use Rattle.luks_reading.proofs.Luks2FaultFacts.{meta_cases}
use Rattle.luks_reading.proofs.ReadFaults.{own_head}
use Rattle.luks_request.specs.declared.request.ShowAs.{ShowAs}
use Rattle.luks_request.specs.declared.request.ShowAs.TheVariants.{Lines, All, Map as AsMap, Tables as AsTables, Tokens as AsTokens, Token as AsToken, Json as AsJson}
use Rattle.luks_map.specs.Map.{IsMap}
use Rattle.luks_wide_reading.specs.declared.read_fault.WideReadFault.TheVariants.{Read}
use Rattle.luks_wide_reading.specs.Headers.{IsWideUnread}
use Rattle.luks_edit.specs.declared.edit_fault.EditFault.{EditFault}
use Rattle.luks_edit.specs.declared.edit_fault.EditFault.TheVariants.{NoSuchToken}
use Rattle.luks_show.specs.declared.listing.Listing.{Listing}
use Rattle.luks_show.specs.declared.listing.Listing.TheVariants.{Luks1, Luks2}
use Rattle.luks_commands.specs.declared.answers.Answer.{Answer}
use Rattle.luks_commands.specs.declared.answers.Answer.TheVariants.{Listed, Json, Refused, DeviceFault, NoMemory}
use Rattle.luks_commands.specs.declared.answers.Refusal.TheVariants.{Check, Edit}
use Rattle.luks_commands.specs.Answer.{check_fault_answer}
use Rattle.luks_commands.specs.Lost.{IsLost}
use Rattle.luks_commands.proofs.NotUnderway.{read_narrow, unread_narrow}
use Rattle.luks_commands.proofs.UnderwayFacts.{check_lost, narrow_unread}
use Rattle.luks_commands.specs.ShowAnswers.{IsBeforeAreas, IsAsJson, IsAsMap, IsAsTables, IsAsToken, IsAsTokens, IsFirstShowFault, IsFullAnswer, IsHeaderAnswer, IsInFull, IsJsonAnswer, IsListedAnswer, IsMapAnswer, IsShowAnswer, IsShowFault, IsShown, IsShownAs, IsTablesAnswer, IsTokenAnswer, IsTokensAnswer, IsVolumeShown}

-- the first fault of a check is the first that refuses a listing, unless it is one of the areas
first_shown : (v : List ℕ) (f : CheckFault) → First v Elsewhere f → IsBeforeAreas f → IsFirstShowFault v f
first_shown v f first before = (record { fault = first.0; before = before }, λ g is. first.1 g is.fault)

-- a header that isn't read
answers_unread : (tells : Type 0) (v : List ℕ) (before after : ℕ) (f : ReadFault)
    → after ≡ count_after (is_read_failure f) before → (tells → IsUnread v f) → IsListedAnswer tells v before after (check_fault_answer (unread_checked f))
answers_unread tells v before after (reading.Head f) count is = (count, λ t. first_shown v (Head f) (unread_refused choices_agree v Elsewhere (reading.Head f) (is t)) tt)
answers_unread tells v before after (reading.Meta f) count is = (count, λ t. first_shown v (Meta f) (unread_refused choices_agree v Elsewhere (reading.Meta f) (is t)) tt)
answers_unread tells v before after reading.Device count is = count
answers_unread tells v before after reading.Memory count is = (count, is)

-- ---- LUKS1

module _ (v : List ℕ) (chosen : Chosen v luks1) where
  -- a fault of the volume is one of its header's 592 bytes
  luks1_fault : (f : CheckFault) → IsShowFault v f → IsFaultAs v Elsewhere luks1 f
  luks1_fault f is = subst (λ c. IsFaultAs v Elsewhere c f) (choices_agree v is.fault.choice luks1 is.fault.chosen chosen) is.fault.fault

  luks1_first : (f : HeadFault) → IsLeast head_key (IsLuks1Fault (part v 0 592)) f → IsFirstShowFault v (Head f)
  luks1_first f least = (record { fault = record { choice = luks1; chosen = chosen; fault = least.0 }; before = tt }, after)
    where
      after : (g : CheckFault) → IsShowFault v g → NotAfter (check_key (Head f)) (check_key g)
      after (Head g) is = (omega arith, λ _. least.1 g (luks1_fault (Head g) is))
      after (Meta g) is = absurd (luks1_fault (Meta g) is)
      after (Area g) is = absurd is.before
      after Device is = absurd is.before
      after Memory is = absurd is.before

  luks1_faultless : ((f : HeadFault) → IsLuks1Fault (part v 0 592) f → ⊥) → (f : CheckFault) → IsShowFault v f → ⊥
  luks1_faultless none (Head f) is = none f (luks1_fault (Head f) is)
  luks1_faultless none (Meta f) is = luks1_fault (Meta f) is
  luks1_faultless none (Area f) is = is.before
  luks1_faultless none Device is = is.before
  luks1_faultless none Memory is = is.before

-- the 592 bytes of a LUKS1 header have a fault
pub refused_luks1 : (h : List ℕ) (f : HeadFault) → IsLeast head_key (IsLuks1Fault h) f
    → IsHeaderAnswer (header.Luks1 h) (check_fault_answer (unread_checked (head_unread f)))
refused_luks1 h f least =
    subst (λ r. IsHeaderAnswer (header.Luks1 h) (check_fault_answer (unread_checked r)))
    (sym (own_head f (λ e. subst (IsLuks1Fault h) e least.0) (λ e. subst (IsLuks1Fault h) e least.0)))
    (λ v is. luks1_first v is.0 f (subst (λ b. IsLeast head_key (IsLuks1Fault b) f) is.1 least))

-- or none
pub shows_luks1 : (v h : List ℕ) (d : Header1) → Chosen v luks1 × (h ≡ part v 0 592)
    → ((f : HeadFault) → IsLuks1Fault h f → ⊥) → IsLuks1 h d → IsShown v (Luks1 d)
shows_luks1 v h d is none holds = record {
  faultless = luks1_faultless v is.0 (subst (λ b. (f : HeadFault) → IsLuks1Fault b f → ⊥) is.1 none);
  is = (is.0, subst (λ b. IsLuks1 b d) is.1 holds);
}

-- ---- LUKS2

-- the copy that counts has no fault
pub shows_luks2 : (v : List ℕ) (copy : ChosenCopy) → IsChosenCopy v copy → IsShown v (Luks2 copy)
shows_luks2 v copy is = record { faultless = none; is = is }
  where
    place : ℕ
    place = copy.header.hdr_offset

    own : (f : CheckFault) → IsShowFault v f → IsFaultAs v Elsewhere (luks2 place copy.copies) f
    own f x = subst (λ c. IsFaultAs v Elsewhere c f) (choices_agree v x.fault.choice (luks2 place copy.copies) x.fault.chosen is.chosen) x.fault.fault

    none : (f : CheckFault) → IsShowFault v f → ⊥
    none (Head f) x = uuid_sound (uuid_field (header_at v place)) is.uuid f (own (Head f) x)
    none (Meta f) x = elim (meta_cases (json_at v place) Elsewhere f (own (Meta f) x)) [
      | inl mine ↦ (metadata_faultless (json_at v place)).1 (content copy.meta, is.metadata) f mine
      | inr other ↦ let here = other.1.1.here in cc
    ]
    none (Area f) x = x.before
    none Device x = x.before
    none Memory x = x.before

-- ---- of a volume

-- what is answered of a header in which nothing is under way is answered of the volume in which it counts
header_listed : (tells : Type 0) (v : List ℕ) (before after : ℕ) (h : Header) (a : Answer) → after ≡ before
    → (tells → IsHeader v h) → IsHeaderAnswer h a → IsListedAnswer tells v before after a
header_listed tells v before after h (Listed listing) count is shown = (count, λ t. shown v (is t))
header_listed tells v before after h (Refused (Check f)) count is shown = (count, λ t. shown v (is t))
header_listed tells v before after h other count is shown = absurd shown

-- ---- in another form

-- the answer by lines as JSON
json_answer : (tells : Type 0) (v : List ℕ) (before after : ℕ) (answer a : Answer) → IsAsJson answer a
    → IsListedAnswer tells v before after answer → IsJsonAnswer tells v before after a
json_answer tells v before after (Listed listing) (Json text) made is = (is.0, λ t. record { listing = listing; shown = is.1 t; is = made })
json_answer tells v before after (Listed listing) NoMemory made is = is.0
json_answer tells v before after (Listed listing) other made is = absurd made
json_answer tells v before after (Refused (Check f)) a made is = subst (IsJsonAnswer tells v before after) (sym made) is
json_answer tells v before after DeviceFault a made is = subst (IsJsonAnswer tells v before after) (sym made) is
json_answer tells v before after NoMemory a made is = subst (IsJsonAnswer tells v before after) (sym made) is.0
json_answer tells v before after other a made is = absurd is

-- the answer by lines with all that they may tell
full_answer : (tells : Type 0) (v : List ℕ) (before after : ℕ) (answer a : Answer) → IsInFull answer a
    → IsListedAnswer tells v before after answer → IsFullAnswer tells v before after a
full_answer tells v before after (Listed listing) a made is =
    subst (IsFullAnswer tells v before after) (sym made.1.0) (is.0, λ t. subst (IsShown v) (sym made.1.1) (is.1 t))
full_answer tells v before after (Refused (Check f)) a made is = subst (IsFullAnswer tells v before after) (sym made) is
full_answer tells v before after DeviceFault a made is = subst (IsFullAnswer tells v before after) (sym made) is
full_answer tells v before after NoMemory a made is = subst (IsFullAnswer tells v before after) (sym made) is
full_answer tells v before after other a made is = absurd is

-- the answer by lines as a map of a volume of `total` bytes
map_answer : (total : ℕ) (tells : Type 0) (v : List ℕ) (before after : ℕ) (answer a : Answer) → (tells → length v ≡ total) → IsAsMap total answer a
    → IsListedAnswer tells v before after answer → IsMapAnswer tells v before after a
map_answer total tells v before after (Listed listing) a long made is =
    subst (IsMapAnswer tells v before after) (sym made.1.0)
    (is.0, λ t. record { listing = listing; shown = is.1 t; is = subst (λ n. IsMap listing n made.0) (sym (long t)) made.1.1 })
map_answer total tells v before after (Refused (Check f)) a long made is = subst (IsMapAnswer tells v before after) (sym made) is
map_answer total tells v before after DeviceFault a long made is = subst (IsMapAnswer tells v before after) (sym made) is
map_answer total tells v before after NoMemory a long made is = subst (IsMapAnswer tells v before after) (sym made) is
map_answer total tells v before after other a long made is = absurd is

-- the answer by lines as that of its tokens
tokens_answer : (tells : Type 0) (v : List ℕ) (before after : ℕ) (answer a : Answer) → IsAsTokens answer a
    → IsListedAnswer tells v before after answer → IsTokensAnswer tells v before after a
tokens_answer tells v before after (Listed listing) a made is =
    subst (IsTokensAnswer tells v before after) (sym made.1.0) (is.0, λ t. subst (IsShown v) (sym made.1.1) (is.1 t))
tokens_answer tells v before after (Refused (Check f)) a made is = subst (IsTokensAnswer tells v before after) (sym made) is
tokens_answer tells v before after DeviceFault a made is = subst (IsTokensAnswer tells v before after) (sym made) is
tokens_answer tells v before after NoMemory a made is = subst (IsTokensAnswer tells v before after) (sym made) is
tokens_answer tells v before after other a made is = absurd is

-- there is no such token
no_such_token : (n : ℕ) (tells : Type 0) (v : List ℕ) (before after : ℕ) (listing : Listing) (f : EditFault) → IsAsToken n (Listed listing) (Refused (Edit f))
    → IsListedAnswer tells v before after (Listed listing) → IsTokenAnswer n tells v before after (Refused (Edit f))
no_such_token n tells v before after listing NoSuchToken made is = (is.0, λ t. record { listing = listing; shown = is.1 t; is = made })
no_such_token n tells v before after listing f made is = absurd made

-- the answer by lines as the token with the number `n`
token_answer : (n : ℕ) (tells : Type 0) (v : List ℕ) (before after : ℕ) (answer a : Answer) → IsAsToken n answer a
    → IsListedAnswer tells v before after answer → IsTokenAnswer n tells v before after a
token_answer n tells v before after (Listed listing) (Json text) made is = (is.0, λ t. record { listing = listing; shown = is.1 t; is = made })
token_answer n tells v before after (Listed listing) NoMemory made is = is.0
token_answer n tells v before after (Listed listing) (Refused (Edit f)) made is = no_such_token n tells v before after listing f made is
token_answer n tells v before after (Listed listing) other made is = absurd made
token_answer n tells v before after (Refused (Check f)) a made is = subst (IsTokenAnswer n tells v before after) (sym made) is
token_answer n tells v before after DeviceFault a made is = subst (IsTokenAnswer n tells v before after) (sym made) is
token_answer n tells v before after NoMemory a made is = subst (IsTokenAnswer n tells v before after) (sym made) is.0
token_answer n tells v before after other a made is = absurd is

-- the answer by lines where a table of what is under way is asked for
tables_answer : (tells : Type 0) (v : List ℕ) (before after : ℕ) (answer a : Answer) → IsAsTables answer a
    → IsListedAnswer tells v before after answer → IsTablesAnswer tells v before after a
tables_answer tells v before after (Listed listing) a made is = subst (IsTablesAnswer tells v before after) (sym made) (is.0, λ t. (listing, is.1 t))
tables_answer tells v before after (Refused (Check f)) a made is = subst (IsTablesAnswer tells v before after) (sym made) is
tables_answer tells v before after DeviceFault a made is = subst (IsTablesAnswer tells v before after) (sym made) is
tables_answer tells v before after NoMemory a made is = subst (IsTablesAnswer tells v before after) (sym made) is
tables_answer tells v before after other a made is = absurd is

-- in each form
shown_answer : (form : ShowAs) (total : ℕ) (tells : Type 0) (v : List ℕ) (before after : ℕ) (answer a : Answer) → (tells → length v ≡ total)
    → IsShownAs form total answer a → IsListedAnswer tells v before after answer → IsShowAnswer form tells v before after a
shown_answer Lines total tells v before after answer a long made is = subst (IsListedAnswer tells v before after) (sym made) is
shown_answer All total tells v before after answer a long made is = full_answer tells v before after answer a made is
shown_answer AsMap total tells v before after answer a long made is = map_answer total tells v before after answer a long made is
shown_answer AsTables total tells v before after answer a long made is = tables_answer tells v before after answer a made is
shown_answer AsTokens total tells v before after answer a long made is = tokens_answer tells v before after answer a made is
shown_answer (AsToken n) total tells v before after answer a long made is = token_answer n tells v before after answer a made is
shown_answer AsJson total tells v before after answer a long made is = json_answer tells v before after answer a made is

-- ---- in each form, of a volume

-- an answer that was lost stays
lost_stays : (form : ShowAs) (total : ℕ) (answer a : Answer) → IsShownAs form total answer a → IsLost answer → IsLost a
lost_stays Lines total answer a made lost = subst IsLost (sym made) lost
lost_stays All total DeviceFault a made lost = subst IsLost (sym made) tt
lost_stays All total NoMemory a made lost = subst IsLost (sym made) tt
lost_stays AsMap total DeviceFault a made lost = subst IsLost (sym made) tt
lost_stays AsMap total NoMemory a made lost = subst IsLost (sym made) tt
lost_stays AsTables total DeviceFault a made lost = subst IsLost (sym made) tt
lost_stays AsTables total NoMemory a made lost = subst IsLost (sym made) tt
lost_stays AsTokens total DeviceFault a made lost = subst IsLost (sym made) tt
lost_stays AsTokens total NoMemory a made lost = subst IsLost (sym made) tt
lost_stays (AsToken n) total DeviceFault a made lost = subst IsLost (sym made) tt
lost_stays (AsToken n) total NoMemory a made lost = subst IsLost (sym made) tt
lost_stays AsJson total DeviceFault a made lost = subst IsLost (sym made) tt
lost_stays AsJson total NoMemory a made lost = subst IsLost (sym made) tt
lost_stays form total other a made lost = absurd lost

-- a header in which nothing is under way
pub shows_header : (form : ShowAs) (total : ℕ) (tells : Type 0) (v : List ℕ) (before after : ℕ) (h : Header) (answer a : Answer)
    → (tells → length v ≡ total) → after ≡ before → (tells → IsHeader v h) → IsHeaderAnswer h answer → IsShownAs form total answer a
    → IsVolumeShown form tells v before after a
shows_header form total tells v before after h answer a long count is shown made = inl (
  shown_answer form total tells v before after answer a long made (header_listed tells v before after h answer count is shown),
  λ t u. absurd (read_narrow v h (is t) u),
)

-- one that isn't read for something else than what is under way
pub shows_unread : (form : ShowAs) (total : ℕ) (tells : Type 0) (v : List ℕ) (before after : ℕ) (f : ReadFault) (a : Answer)
    → (tells → length v ≡ total) → after ≡ count_after (is_read_failure f) before → (tells → IsWideUnread v (Read f))
    → IsShownAs form total (check_fault_answer (unread_checked f)) a → IsVolumeShown form tells v before after a
shows_unread form total tells v before after f a long count is made =
    let answer = check_fault_answer (unread_checked f) in inl (
      shown_answer form total tells v before after answer a long made (answers_unread tells v before after f count (λ t. narrow_unread v f (is t))),
      λ t u. lost_stays form total answer a made (check_lost f (unread_narrow v f (is t) u)),
    )
