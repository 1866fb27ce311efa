-- `lines::printing::put_text` meets its contract.
use Rattle.theory.proofs.Prelude.{◌+◌, ◌-◌, length, ◌∙◌, sym, refl, arith, take, drop, append_assoc}
use Rattle.std.proofs.lemmas.List.Edits.{sets-eq, paste_all}
use Rattle.std.proofs.lemmas.Slice.{put_mid-paste}
use Rattle.lines.proofs.printing.put_text.Goals as goal

pub returns : goal.returns
returns c =
    let s = c.args in
    let n = length s.text.now in
    record {
      ends = refl;
      fits = omega arith;
      holds = put_mid-paste s.at (s.at + n - s.at) s.out.now _ s.text.now n c.copy_from_slice.ensures.after (omega arith) refl ∙ paste_all s.out.now s.at s.text.now n refl ∙ sym (append_assoc (take s.at s.out.now) s.text.now (drop (s.at + n) s.out.now)) ∙ sym (sets-eq s.text.now s.out.now s.at (omega arith));
    }
