use Rattle.std.proofs.Common.{List, ℕ, sym, subst, ◌∙◌, inl, inr}
use Rattle.luks_area.proofs.DeviceFacts.{settled_unchanged}
use Rattle.luks_commands.specs.Answer.{answer_status}
use Rattle.luks_commands.specs.Files.{AreFirstBytes, IsWhole}
use Rattle.luks_commands.specs.Formatting.{needed, IsGivenKey, SaysFormat}
use Rattle.luks_commands.specs.declared.answers.Status.TheVariants.{Refused}
use Rattle.luks_commands.proofs.FormatFacts.{format_after, given_slice, left_unchanged, left_undone, says_ended}
use Rattle.luks_commands.proofs.format.run.Goals as goal

pub returns-clause-left : goal.returns-clause-left
returns-clause-left g c =
    let HasWords : List ℕ → Type 0 = IsWhole g.R.Read.remaining c.args.inputs.now.passphrase in
    let HasCounted : ℕ → List ℕ → Type 0 = λ count. AreFirstBytes count g.N.Read.remaining c.args.inputs.now.random in
    let HasRandom : List ℕ → Type 0 = HasCounted (needed c.args.making.now) in
    let HasKey : List ℕ → Type 0 = IsWhole g.R.Read.remaining c.args.inputs.now.new_passphrase in
    let keyed : IsGivenKey HasKey c.args.making.now.given.key c.slice_of.result = given_slice HasKey c.args.making.now.given.key c.in-Ok-given_key.key c.slice_of.result c.in-Ok-given_key.ensures.whole c.slice_of.ensures in
    let words : HasWords c.as_slice-words.result.now = subst HasWords (sym c.as_slice-words.ensures.value) c.in-Ok.ensures.whole in
    let counted : HasRandom c.in-Ok-random_bytes.bytes = subst (λ n. HasCounted n c.in-Ok-random_bytes.bytes) c.random_needed.ensures c.in-Ok-random_bytes.ensures.taken in
    let taken : HasRandom c.as_slice-random.result.now = subst HasRandom (sym c.as_slice-random.ensures.value) counted in
    rw c.in-Ok-volume.is (record {
      size = c.format_device.ensures.size ∙ c.judge_standing.ensures.unchanged.size;
      said = λ tells.
          subst (λ (v : List ℕ). SaysFormat c.args.making.now HasWords HasKey HasRandom v (g.D.Device.bytes c.format_device.new.device) (answer_status c.format_device.result))
          (c.judge_standing.ensures.unchanged.same tells)
          (says_ended c.args.making.now HasWords HasKey HasRandom c.slice_of.result _ _ _ _ (answer_status c.format_device.result) words keyed taken
          (c.format_device.ensures.done tells) (c.format_device.ensures.refused tells) (c.format_device.ensures.rest tells));
    })

pub returns-clause-answers : goal.returns-clause-answers
returns-clause-answers g c =
    let HasWords : List ℕ → Type 0 = IsWhole g.R.Read.remaining c.args.inputs.now.passphrase in
    let HasCounted : ℕ → List ℕ → Type 0 = λ count. AreFirstBytes count g.N.Read.remaining c.args.inputs.now.random in
    let HasRandom : List ℕ → Type 0 = HasCounted (needed c.args.making.now) in
    let HasKey : List ℕ → Type 0 = IsWhole g.R.Read.remaining c.args.inputs.now.new_passphrase in
    let keyed : IsGivenKey HasKey c.args.making.now.given.key c.slice_of.result = given_slice HasKey c.args.making.now.given.key c.in-Ok-given_key.key c.slice_of.result c.in-Ok-given_key.ensures.whole c.slice_of.ensures in
    let words : HasWords c.as_slice-words.result.now = subst HasWords (sym c.as_slice-words.ensures.value) c.in-Ok.ensures.whole in
    let counted : HasRandom c.in-Ok-random_bytes.bytes = subst (λ n. HasCounted n c.in-Ok-random_bytes.bytes) c.random_needed.ensures c.in-Ok-random_bytes.ensures.taken in
    let taken : HasRandom c.as_slice-random.result.now = subst HasRandom (sym c.as_slice-random.ensures.value) counted in
    rw c.in-Ok-volume.is (inr (inr (record {
      clear = c.in-Ok-judge_standing.ensures.clear;
      passphrase = c.as_slice-words.result.now;
      words = words;
      key = c.slice_of.result;
      keyed = keyed;
      random = c.as_slice-random.result.now;
      taken = taken;
      is = format_after g.D.Device.tells c.args.making.now c.slice_of.result c.as_slice-words.result.now c.as_slice-random.result.now _ _ _ _ _ _ _ _ c.format_device.result
          c.judge_standing.ensures.unchanged.size c.judge_standing.ensures.unchanged.same c.in-Ok-judge_standing.ensures.count c.format_device.ensures.answers;
    })))

pub returns-in-Err-judge_standing-clause-left : goal.returns-in-Err-judge_standing-clause-left
returns-in-Err-judge_standing-clause-left g c =
    rw c.in-Ok-volume.is (left_unchanged g.D.Device.tells g.D.Device.size g.D.Device.bytes g.D.Device.unsettled c.args.making.now _ _ _ _ _
    (answer_status c.held_back.result) c.held_back.ensures.undone c.judge_standing.ensures.unchanged)

pub returns-in-Err-judge_standing-clause-answers : goal.returns-in-Err-judge_standing-clause-answers
returns-in-Err-judge_standing-clause-answers g c =
    rw c.in-Ok-volume.is (inr (inl (record {
      bar = c.in-Err-judge_standing.bar;
      barred = c.in-Err-judge_standing.ensures.barred;
      counted = c.in-Err-judge_standing.ensures.count;
      same = c.judge_standing.ensures.unchanged.same;
      is = c.held_back.ensures.answer;
    })))

pub returns-in-Err-TooLong-clause-left : goal.returns-in-Err-TooLong-clause-left
returns-in-Err-TooLong-clause-left g c = left_undone _ _ _ _ _ _ _ c.args.inputs.now.volume Refused (λ e. cc)

pub returns-in-Err-judge_standing-clause-settled : goal.returns-in-Err-judge_standing-clause-settled
returns-in-Err-judge_standing-clause-settled g c =
    rw c.in-Ok-volume.is (λ told same. settled_unchanged told c.judge_standing.ensures.unchanged (c.requires.settled told c.in-Ok-volume.device c.in-Ok-volume.is))

pub returns-in-Err-random_bytes-clause-settled : goal.returns-in-Err-random_bytes-clause-settled
returns-in-Err-random_bytes-clause-settled g c =
    rw c.in-Ok-volume.is (λ told same. settled_unchanged told c.judge_standing.ensures.unchanged (c.requires.settled told c.in-Ok-volume.device c.in-Ok-volume.is))

pub format_device-requires-clause-settled : goal.format_device-requires-clause-settled
format_device-requires-clause-settled g c = λ told.
    settled_unchanged told c.judge_standing.ensures.unchanged (c.requires.settled told c.in-Ok-volume.device c.in-Ok-volume.is)
