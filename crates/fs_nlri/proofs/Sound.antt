use Rattle.fs_nlri.proofs.Words.{ℕ, List, [], ◌∷◌, Option, Some, None, Family, Form, V4Form, V6Form, ListForm, form_of, Body, V4Body, V6Body}
use Rattle.fs_nlri.proofs.Words.{ListBody, Part, Ruled, AreNormal, IsNormalAt, IsNormalBody, IsRule, AreSound, IsSoundBody}

-- The components of a rule are in normal form.

pub sound_body : (form : Form) (body : Body) → IsNormalBody form body → IsSoundBody body
sound_body V4Form (V4Body family len bits) h = h
sound_body V6Form (V6Body len offset pattern) h = h
sound_body (ListForm kind widths bits) (ListBody pairs) h = (kind, h.0)
sound_body _ _ h = absurd h

pub sound_part : (form : Option Form) (body : Body) → IsNormalAt form body → IsSoundBody body
sound_part None body h = absurd h
sound_part (Some form) body h = sound_body form body h

pub sound_parts : (family : Family) (last : ℕ) (parts : List Part) → AreNormal family last parts → AreSound parts
sound_parts family last [] h = tt
sound_parts family last (part ∷ parts) h = (sound_part (form_of family part.kind) part.body h.1, sound_parts family part.kind parts h.2)

pub rule_sound : (rule : Ruled) → IsRule rule → AreSound rule.parts
rule_sound rule h = sound_parts rule.family 0 rule.parts h.normal
