-- Numbers of an OPEN that no end refuses (RFC 4271, section 4.2).
use Rattle.std.specs.Prelude.{◌≢◌, ℕ, ◌^◌, ◌<◌}
use Rattle.fs_base.specs.declared.config.Config.{Config}

-- an AS number or an identifier: of four octets, and not 0
pub record IsFourOctet (number : ℕ) : Type 0 where
  pub small : number < 2 ^ 32
  pub some : 0 < number

-- of two octets, and neither one second nor two
pub record IsHoldTime (seconds : ℕ) : Type 0 where
  pub small : seconds < 2 ^ 16
  pub not_one : seconds ≢ 1
  pub not_two : seconds ≢ 2

-- those of an end of a configuration
pub record HasOwnNumbers (config : Config) : Type 0 where
  pub asn : IsFourOctet config.local_as
  pub id : IsFourOctet config.local_id
  pub hold_time : IsHoldTime config.hold_time
