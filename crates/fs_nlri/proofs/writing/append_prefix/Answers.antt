use Rattle.fs_nlri.proofs.Words.{◌≡◌, ℕ, ◌-◌, ◌*◌, ◌≤◌, subst, arith, PrefixForm, octets_for, body_of, IsWritable}
use Rattle.fs_nlri.specs.declared.component.PrefixForm.TheVariants.{V4, V6}
use Rattle.fs_nlri.proofs.writing.append_prefix.Goals as goal

own_form : (form known : PrefixForm) → form ≡ known → IsWritable (body_of form) → IsWritable (body_of known)
own_form form known is writable = subst (λ (f : PrefixForm). IsWritable (body_of f)) is writable

room_for : (bits width : ℕ) → bits ≤ 8 * width → 8 * octets_for bits ≤ 8 * width
room_for bits width most = omega arith

pub append_bits-requires-clause-room : goal.append_bits-requires-clause-room
append_bits-requires-clause-room c =
    let writable = own_form c.args.form.now (V4 c.in-V4.prefix) c.in-V4.is c.requires in
    room_for c.in-V4.prefix.length 4 writable.0

pub append_bits-requires-clause-fits : goal.append_bits-requires-clause-fits
append_bits-requires-clause-fits c = (own_form c.args.form.now (V4 c.in-V4.prefix) c.in-V4.is c.requires).1

pub append_bits-requires-in-V6-clause-room : goal.append_bits-requires-in-V6-clause-room
append_bits-requires-in-V6-clause-room c =
    let most : c.in-V6.length ≤ 128 = own_form c.args.form.now (V6 c.in-V6.length c.in-V6.offset c.in-V6.pattern) c.in-V6.is c.requires in
    let left : c.saturating_sub.result ≤ 128 = let e : c.saturating_sub.result ≡ c.in-V6.length - c.in-V6.offset = c.saturating_sub.ensures in omega arith in
    room_for c.saturating_sub.result 16 left
