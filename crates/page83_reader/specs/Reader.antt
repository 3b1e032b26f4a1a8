-- The reader of page 83h: the name and the ports that went in, of one complete page and of nothing else (RULES 6.4).
use Rattle.std.specs.Prelude.{Bool, true, cond, ◌&&◌, ◌||◌, not, List, [], ◌∷◌, ℕ, ◌+◌, ◌*◌, ◌-◌, eqb, leb, length, get_or, take, drop, replicate}
use Rattle.rules.specs.Bits.{flag}
use Rattle.room.specs.Room.{written}
use Rattle.identify.specs.Bytes.{equal}
use Rattle.identify.specs.Names.{some_bit}
use Rattle.port.specs.declared.Ports.{Ports}
use Rattle.port.specs.Ports.{relative_head, sas_port, is_port}
use Rattle.page83_drive.specs.Descriptor.{head, name_descriptor, text_descriptor}
use Rattle.page83_reader.specs.declared.Name.{Name}

-- No byte is zero.
unfoldable pub no_zero : List ℕ → Bool
no_zero [] = true
no_zero (byte ∷ bytes) = not (eqb byte 0) && no_zero bytes

-- Page code 83h, and a length field that tells the bytes behind it.
abbrev pub headed : List ℕ → Bool
headed page = equal (take 4 page) (head (length page - 4))

-- Up to byte 16: the head of a name, and a name that is not zero.
abbrev pub names_drive : List ℕ → Bool
names_drive page = leb 16 (length page) && equal (take 4 (drop 4 page)) (name_descriptor []) && some_bit (take 8 (drop 8 page))

-- Up to byte 76: the head of texts, and texts in which no zero byte is left.
abbrev pub tells_texts : List ℕ → Bool
tells_texts page = leb 76 (length page) && equal (take 12 (drop 4 page)) (text_descriptor [] []) && no_zero (take 60 (drop 16 page))

-- The number of the relative target port that bytes start with, 1 or 2; 0 where they start with none.
abbrev pub two_bytes : List ℕ → ℕ
two_bytes bytes = 0x100 * get_or bytes 6 0 + get_or bytes 7 0

unfoldable pub relative_in : List ℕ → ℕ
relative_in bytes = cond (equal (take 6 bytes) relative_head && is_port (two_bytes bytes)) (two_bytes bytes) 0

-- What follows it: all bytes where there is none.
unfoldable pub behind_relative : List ℕ → List ℕ
behind_relative bytes = cond (eqb (relative_in bytes) 0) bytes (drop 8 bytes)

-- A SAS target port and nothing after it.
unfoldable pub tells_sas : List ℕ → Bool
tells_sas bytes = eqb (length bytes) 12 && equal (take 4 bytes) (sas_port [])

-- What may follow the drive's descriptor: a relative target port or none, then a SAS target port or none, and nothing else.
abbrev pub sas_or_nothing : List ℕ → Bool
sas_or_nothing bytes = eqb (length bytes) 0 || tells_sas bytes

unfoldable pub tells_ports : List ℕ → Bool
tells_ports bytes = sas_or_nothing (behind_relative bytes)

-- The ports that it tells, and the address of the SAS one; zeros for what is not there.
abbrev pub ports_of : ℕ → Bool → Ports
ports_of relative sas = record { chosen = flag (not (eqb relative 0)) + 2 * flag sas; relative = relative }

unfoldable pub ports_in : List ℕ → Ports
ports_in bytes = ports_of (relative_in bytes) (not (eqb (length (behind_relative bytes)) 0))

abbrev pub address_of : List ℕ → List ℕ
address_of sas = written (replicate 8 0x00) 0 (take 8 (drop 4 sas))

unfoldable pub address_in : List ℕ → List ℕ
address_in bytes = address_of (behind_relative bytes)

-- The name's bytes, at the front of 60 that are zero behind them.
abbrev pub in_sixty : List ℕ → List ℕ
in_sixty bytes = written (replicate 60 0x00) 0 bytes

-- A page that the writer cannot make is refusal 16, and all else is zero.
abbrev pub refused : Name
refused =
    record {
      number = 16;
      form = 0;
      name = in_sixty [];
      ports = record { chosen = 0; relative = 0 };
      address = replicate 8 0x00;
    }

-- A name, in its 60 bytes, and the ports that stand behind it.
unfoldable pub told : ℕ → List ℕ → List ℕ → Name
told form name behind =
    cond (tells_ports behind)
    (record { number = 0; form = form; name = name; ports = ports_in behind; address = address_in behind })
    refused

-- Form 1 is the world wide name, form 2 the model (40 bytes) and the serial number (20).
unfoldable pub read : List ℕ → Name
read page =
    cond (headed page && names_drive page) (told 1 (in_sixty (take 8 (drop 8 page))) (drop 16 page))
    (cond (headed page && tells_texts page) (told 2 (in_sixty (take 60 (drop 16 page))) (drop 76 page))
    refused)
