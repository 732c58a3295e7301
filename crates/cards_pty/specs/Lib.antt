pub mod Pty
